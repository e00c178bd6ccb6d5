use Rattle.std.proofs.Common.{rules, ◌≡◌, ◌∙◌, ap, sym, true, false, List, ℕ, map, Some, None, if◌then◌else◌, is_some, refl, Bool}
use Rattle.std.proofs.lemmas.Simd.{map-map}
use Rattle.std.specs.List.{list_all, slice_split}
use Rattle.std.proofs.lemmas.Iterator.Consumers.{YieldsList-end}
use Rattle.std.proofs.lemmas.Iterator.Splits.{YieldsList-from_slice_split}
use Rattle.ckr_console.specs.Scripts.{is_bar, is_script, script_for, scripts_of}
use Rattle.ckr_console.proofs.scripts.read_scripts.Goals as goal

some-if : {A : Type 0} (value : A) (test : Bool) → is_some (if test then Some value else None) ≡ true → Some value ≡ (if test then Some value else None)
some-if value true is = refl
some-if value false is = cc

scripts_of-some : (text : List ℕ) → is_some (scripts_of text) ≡ true → Some (map script_for (slice_split is_bar text)) ≡ scripts_of text
unfolding scripts_of
scripts_of-some text is = some-if _ (list_all is_script (slice_split is_bar text)) is

pub returns-clause-ok : goal.returns-clause-ok
returns-clause-ok c =
    let end =
    YieldsList-end
    (YieldsList-from_slice_split _ is_bar c.args.text.now c.split-part-items.ensures.rest c.split-part-items.ensures.done c.split-part-items.ensures.closure
    (λ x b q k. search rules))
    c.loop-part.yielded _ (rw c.into_iter-part-iterator.ensures.into_iter_gives at c.loop-part.yielded_by) _ _ c.in-None.is c.next.ensures.steps in
    ap Some (c.loop-part.invariant ∙ sym (map-map _ _ c.loop-part.yielded) ∙ ap (map script_for) end.0)
    ∙ scripts_of-some c.args.text.now (sym c.are_scripts.ensures ∙ c.if-not-are_scripts.false)
