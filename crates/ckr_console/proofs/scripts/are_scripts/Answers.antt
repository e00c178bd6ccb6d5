use Rattle.std.proofs.Common.{rules, ◌≡◌, ◌∙◌, refl, Bool, true, false, is_some, Some, None, if◌then◌else◌}
use Rattle.std.specs.List.{list_all, slice_split}
use Rattle.std.proofs.lemmas.Iterator.Search.{all_from_yields_List}
use Rattle.std.proofs.lemmas.Iterator.Splits.{YieldsList-from_slice_split}
use Rattle.ckr_console.specs.Scripts.{is_bar, is_script, scripts_of}
use Rattle.ckr_console.proofs.scripts.are_scripts.Goals as goal

is_some-if : {A : Type 0} (value : A) (test : Bool) → test ≡ is_some (if test then Some value else None)
is_some-if value true = refl
is_some-if value false = refl

pub returns : goal.returns
unfolding scripts_of
returns c =
    all_from_yields_List is_script _ _ _ c.all.ensures.ran
    (YieldsList-from_slice_split _ is_bar c.args.text.now c.split.ensures.rest c.split.ensures.done c.split.ensures.closure (λ x b q k. search rules))
    (λ part b q k. search rules)
    ∙ is_some-if _ (list_all is_script (slice_split is_bar c.args.text.now))
