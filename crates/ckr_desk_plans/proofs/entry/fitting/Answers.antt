use Rattle.std.proofs.Common.{◌≡◌, ◌==◌, ◌+◌, List, ℕ, ap, arith, length, sym, ◌∙◌, subst, true, Some}
use Rattle.std.specs.List.{list_any}
use Rattle.std.specs.Option.{is_some}
use Rattle.ckr_base.specs.Grammar.{is_check_id}
use Rattle.ckr_entry.specs.Parts.{entry_of}
use Rattle.ckr_library.specs.declared.sets.DataSet.{DataSet}
use Rattle.ckr_library.specs.declared.sets.Kept.{Kept}
use Rattle.ckr_library.specs.Catalog.{records_of}
use Rattle.ckr_library.specs.NameMaps.{Name, same_name}
use Rattle.ckr_points.specs.Restart.{kept_at}
use Rattle.ckr_desk_plans.specs.Entries.{entry_end, entry_to, next_id, row_of_line}
use Rattle.ckr_desk_plans.specs.StepView.{step_seen}
use Rattle.ckr_desk_plans.proofs.EntryPoints.{absent-count, absent-kept, absent-passed, absent-range, absent-records, absent-space, end-is, fits-there, kept-there}
use Rattle.ckr_desk_plans.proofs.entry.fitting.Goals as goal

pub returns-then-not-has_entry_records-clause-entry : goal.returns-then-not-has_entry_records-clause-entry
returns-then-not-has_entry_records-clause-entry c line tables own table seen made there set_is =
    let check = c.args.behind.now.check.now in
    let row = row_of_line c.args.behind.now.on.now.run line c.args.behind.now.table.now in
    let on = step_seen c.args.behind.now.on.now in
    absent-records check table tables row own on (ap (λ (s : DataSet). s.lrecl == 256) (sym set_is) ∙ sym c.has_entry_records.ensures ∙ c.if-not-has_entry_records.true)

pub returns-then-behind-ge9999999-clause-entry : goal.returns-then-behind-ge9999999-clause-entry
returns-then-behind-ge9999999-clause-entry c line tables own table seen made there set_is =
    let check = c.args.behind.now.check.now in
    let row = row_of_line c.args.behind.now.on.now.run line c.args.behind.now.table.now in
    let on = step_seen c.args.behind.now.on.now in
    absent-count check table tables row own on c.if-behind-ge9999999.true

pub returns-then-as_slice-gt65535-clause-entry : goal.returns-then-as_slice-gt65535-clause-entry
returns-then-as_slice-gt65535-clause-entry c line tables own table seen made there set_is =
    let check = c.args.behind.now.check.now in
    let row = row_of_line c.args.behind.now.on.now.run line c.args.behind.now.table.now in
    let on = step_seen c.args.behind.now.on.now in
    absent-passed check table tables row own on (omega (arith, c.if-as_slice-gt65535.true, ap length c.as_slice.ensures))

pub returns-then-has_id-clause-entry : goal.returns-then-has_id-clause-entry
returns-then-has_id-clause-entry c line tables own table seen made there set_is =
    let check = c.args.behind.now.check.now in
    let row = row_of_line c.args.behind.now.on.now.run line c.args.behind.now.table.now in
    let on = step_seen c.args.behind.now.on.now in
    let kept : is_some (kept_at tables.sets check (next_id row own)) ≡ c.has_id.result =
    sym (c.has_id.ensures
    ∙ ap (list_any (λ (kept : Kept). same_name kept.id c.args.id)) c.entries.ensures
    ∙ kept-there tables.sets check c.args.id table c.args.behind.now.committed.now seen there
    ∙ ap (λ (n : Name). is_some (kept_at tables.sets check n)) made.id) in
    absent-kept check table tables row own on (kept ∙ c.if-has_id.true)

pub returns-then-end-from-clause-entry : goal.returns-then-end-from-clause-entry
returns-then-end-from-clause-entry c line tables own table seen made there set_is =
    let check = c.args.behind.now.check.now in
    let row = row_of_line c.args.behind.now.on.now.run line c.args.behind.now.table.now in
    let on = step_seen c.args.behind.now.on.now in
    let first = c.in_ok-first.ensures.entry tables seen line own (record { step = made.step; owner = made.owner; id = c.copied.ensures ∙ made.id })
    ∙ ap (λ n. entry_to (Some check) n tables row own on) c.requires.end in
    let end : c.from.result + c.records_of.result ≡ entry_end check table tables row own on =
    end-is check table tables row own on c.args.set.now (entry_of c.in_ok-first.first.point) c.in_ok-first.first.bytes.items c.from.result c.records_of.result set_is first c.in_ok-first.ensures.bytes c.from.ensures
    (c.records_of.ensures ∙ ap (λ (bytes : List ℕ). records_of (length bytes)) c.as_slice-2.ensures.value) in
    absent-space check table tables row own on (omega (arith, end, c.if-end-from.true, c.from-2.ensures, ap (λ (s : DataSet). s.space) set_is))

pub returns-then-not-is_in_range-clause-entry : goal.returns-then-not-is_in_range-clause-entry
returns-then-not-is_in_range-clause-entry c line tables own table seen made there set_is =
    let check = c.args.behind.now.check.now in
    let row = row_of_line c.args.behind.now.on.now.run line c.args.behind.now.table.now in
    let on = step_seen c.args.behind.now.on.now in
    let first = c.in_ok-first.ensures.entry tables seen line own (record { step = made.step; owner = made.owner; id = c.copied.ensures ∙ made.id })
    ∙ ap (λ n. entry_to (Some check) n tables row own on) c.requires.end in
    let end : c.from.result + c.records_of.result ≡ entry_end check table tables row own on =
    end-is check table tables row own on c.args.set.now (entry_of c.in_ok-first.first.point) c.in_ok-first.first.bytes.items c.from.result c.records_of.result set_is first c.in_ok-first.ensures.bytes c.from.ensures
    (c.records_of.ensures ∙ ap (λ (bytes : List ℕ). records_of (length bytes)) c.as_slice-2.ensures.value) in
    let entry = c.in_ok-made.ensures.entry tables seen line own (record { step = made.step; owner = made.owner; id = made.id }) ∙ ap (λ n. entry_to (Some check) n tables row own on) end in
    absent-range check table tables row own on (entry_of c.in_ok-made.made.point) entry (sym c.is_in_range.ensures ∙ c.if-not-is_in_range.true)

pub returns-clause-entry : goal.returns-clause-entry
returns-clause-entry c line tables own table seen made there set_is =
    let check = c.args.behind.now.check.now in
    let row = row_of_line c.args.behind.now.on.now.run line c.args.behind.now.table.now in
    let on = step_seen c.args.behind.now.on.now in
    let kept : is_some (kept_at tables.sets check (next_id row own)) ≡ c.has_id.result =
    sym (c.has_id.ensures
    ∙ ap (list_any (λ (kept : Kept). same_name kept.id c.args.id)) c.entries.ensures
    ∙ kept-there tables.sets check c.args.id table c.args.behind.now.committed.now seen there
    ∙ ap (λ (n : Name). is_some (kept_at tables.sets check n)) made.id) in
    let first = c.in_ok-first.ensures.entry tables seen line own (record { step = made.step; owner = made.owner; id = c.copied.ensures ∙ made.id })
    ∙ ap (λ n. entry_to (Some check) n tables row own on) c.requires.end in
    let end : c.from.result + c.records_of.result ≡ entry_end check table tables row own on =
    end-is check table tables row own on c.args.set.now (entry_of c.in_ok-first.first.point) c.in_ok-first.first.bytes.items c.from.result c.records_of.result set_is first c.in_ok-first.ensures.bytes c.from.ensures
    (c.records_of.ensures ∙ ap (λ (bytes : List ℕ). records_of (length bytes)) c.as_slice-2.ensures.value) in
    let entry = c.in_ok-made.ensures.entry tables seen line own (record { step = made.step; owner = made.owner; id = made.id }) ∙ ap (λ n. entry_to (Some check) n tables row own on) end in
    fits-there check table tables row own on (entry_of c.in_ok-made.made.point) entry (ap (λ (s : DataSet). s.lrecl == 256) (sym set_is) ∙ sym c.has_entry_records.ensures ∙ c.if-not-has_entry_records.false) (omega (arith, end, c.if-end-from.false, c.from-2.ensures, ap (λ (s : DataSet). s.space) set_is)) (kept ∙ c.if-has_id.false)
    (sym c.is_in_range.ensures ∙ c.if-not-is_in_range.false) (subst (λ (n : Name). is_check_id n ≡ true) made.id c.text-grammar.ensures.grammar) (omega (arith, c.if-as_slice-gt65535.false, ap length c.as_slice.ensures))
