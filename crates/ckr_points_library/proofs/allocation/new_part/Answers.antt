use Rattle.std.proofs.Common.{sym, ap, ◌∙◌, [], Ok}
use Rattle.std.specs.Option.{option_copied, option_map}
use Rattle.ckr_library.specs.NameMaps.{entry_at}
use Rattle.ckr_meaning.specs.Allotments.{allotment_of, is_passed}
use Rattle.ckr_points_library.specs.Allocation.{allocated_dd, with_part}
use Rattle.ckr_points_library.specs.Holdings.{known_of}
use Rattle.ckr_points_library.proofs.FreeSpace.{asked, known_as, one_room}
use Rattle.ckr_points_library.proofs.allocation.new_part.Goals as goal

pub returns-in-Err-clause-value : goal.returns-in-Err-clause-value
returns-in-Err-clause-value c =
    let layout = c.args.layout.now in
    let sets = c.args.library.now.sets in
    let dd = c.args.dd.now in
    let name = c.args.name.now in
    ap (λ room. with_part room (Ok [])) (sym c.in-Err.is ∙ c.room_for.ensures.value)
    ∙ sym (one_room layout sets dd dd.volumes.items (asked dd c.requires.dd).single)
    ∙ ap (allocated_dd layout sets dd name) c.in-Made.ensures
    ∙ ap (λ passed. allocated_dd layout sets dd name (allotment_of dd passed (option_map known_of (option_copied c.get.result)))) c.is_passed.ensures
    ∙ ap (λ set. allocated_dd layout sets dd name (allotment_of dd (is_passed c.args.passed.now name) (option_map known_of set))) c.get.ensures
    ∙ ap (λ known. allocated_dd layout sets dd name (allotment_of dd (is_passed c.args.passed.now name) known)) (known_as (entry_at sets name))
