use Rattle.std.proofs.Common.{◌≡◌, ◌≤◌, ℕ, List, length, None, sym, ap, subst, ◌∙◌, arith}
use Rattle.std.proofs.lemmas.Grind.{common_steps}
use Rattle.ckr_volumes.specs.declared.layout.Layout.{Layout}
use Rattle.ckr_volumes.specs.Header.{IsHeader}
use Rattle.ckr_desk_format.specs.declared.disk_layout.Share.{Share}
use Rattle.ckr_desk_format.specs.Installation.{first_over, unsaid_bytes}
use Rattle.ckr_desk_format.proofs.Soundness.{sound_header}
use Rattle.ckr_desk_format.proofs.installation.Installation.finish.Goals as goal

pub returns-in-None-clause-header : goal.returns-in-None-clause-header
returns-in-None-clause-header c =
    let said = c.args.self.said in
    let some : 1 ≤ length said.volumes.items = grind (arith, common_steps, c.is_empty.ensures, c.if-is_empty.false) in
    let none : first_over c.args.size (unsaid_bytes said.book) said.shares.items ≡ None =
    ap (λ (l : List Share). first_over c.args.size (unsaid_bytes said.book) l) (sym c.as_slice.ensures.value)
    ∙ ap (λ (n : ℕ). first_over c.args.size n c.as_slice.result.now) (sym c.unsaid_bytes-taken.ensures.value) ∙ sym c.first_over.ensures ∙ c.in-None.is in
    subst (λ (layout : Layout). IsHeader layout c.args.size) (sym c.layout_of.ensures) (sound_header said c.args.size c.requires some none)
