use Rattle.std.proofs.Common.{◌≡◌, ◌++◌, [], ◌∷◌, arith}
use Rattle.std.proofs.lemmas.Grind.{common_steps}
use Rattle.std.proofs.Common.{append_assoc}
use Rattle.ckr_uses.proofs.Qualifiers.{is_ds_name-qualified}
use Rattle.ckr_uses.proofs.set_names.qualified.Goals as goal

pub ds_name-requires : goal.ds_name-requires
ds_name-requires c =
    let whole : c.as_slice.result.now ≡ c.args.front.now ++ 46 ∷ c.args.name.now = grind (arith, common_steps, append_assoc c.args.front.now (46 ∷ []) c.args.name.now) in
    rw whole (is_ds_name-qualified c.args.front.now c.args.name.now c.text.ensures.grammar c.requires c.text-2.ensures.grammar)
