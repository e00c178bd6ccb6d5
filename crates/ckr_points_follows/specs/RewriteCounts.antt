-- Whether one more rewrite of each data set can be counted.
use Rattle.std.specs.Prelude.{◌&&◌, Bool, true, nat_lt, length}
use Rattle.std.specs.List.{list_all}
use Rattle.ckr_events.specs.declared.event.Event.{Event}
use Rattle.ckr_events.specs.declared.event.Event.TheVariants.{Rewritten}
use Rattle.ckr_library.specs.NameMaps.{Name, Named}
use Rattle.ckr_points.specs.Rows.{TableSet}

abbrev pub has_few_rewrites : Name × TableSet → Bool
has_few_rewrites entry = nat_lt entry.1.set.stamp.rewrites 4294967295

-- there are fewer than 4,294,967,295 data sets, and one more rewrite of each can be counted
abbrev pub have_few_rewrites : Named TableSet → Bool
have_few_rewrites sets = nat_lt (length sets) 4294967295 && list_all has_few_rewrites sets

abbrev pub may_count : Event → Named TableSet → Bool
may_count (Rewritten job taken writes lengths place image) sets = have_few_rewrites sets
may_count _ sets = true
