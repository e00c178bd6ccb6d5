use Rattle.std.proofs.Common.{◌≡◌, ◌≤◌, ◌<◌, ◌+◌, ◌∙◌, ap, sym, arith, cond, List, length, map, Some, None}
use Rattle.std.proofs.lemmas.List.{length-map}
use Rattle.ckr_base.proofs.Numbers.{nat_le-beyond, nat_le-from}
use Rattle.ckr_points.specs.Rows.{TablesModel}
use Rattle.ckr_points.specs.declared.run.Run.{Run}
use Rattle.ckr_desk_refines.specs.Tables.View.{line_of}
use Rattle.ckr_desk.specs.Submit.{job_number, next_number}
use Rattle.ckr_desk.proofs.desk.Desk.job_number.Goals as goal

next : (lines : List Run) (tables : TablesModel) → lines ≡ map line_of tables.runs → length lines + 1 ≡ next_number tables
next lines tables are = omega (arith, ap length are, length-map tables.runs line_of)

numbered : (lines : List Run) (tables : TablesModel) → lines ≡ map line_of tables.runs → length lines + 1 ≤ 9999999 → Some (length lines + 1) ≡ job_number tables
unfolding job_number
numbered lines tables are few =
    let same = next lines tables are in
    ap Some same ∙ sym (ap (λ b. cond b (Some (next_number tables)) None) (nat_le-from (next_number tables) 9999999 (omega (arith, same, few))))

none : (lines : List Run) (tables : TablesModel) → lines ≡ map line_of tables.runs → 9999999 < length lines + 1 → None ≡ job_number tables
unfolding job_number
none lines tables are many =
    sym (ap (λ b. cond b (Some (next_number tables)) None) (nat_le-beyond (next_number tables) 9999999 (omega (arith, next lines tables are, many))))

pub returns-then-number-le9999999 : goal.returns-then-number-le9999999
returns-then-number-le9999999 g c =
    numbered c.runs.result.now c.args.self.now.jobs.tables.desk
    (c.runs.ensures.lines ∙ ap (λ s. map line_of s.jobs.tables.desk.runs) c.self.view_is) (omega (arith, c.if-number-le9999999.true))

pub returns-else-number-le9999999 : goal.returns-else-number-le9999999
returns-else-number-le9999999 g c =
    none c.runs.result.now c.args.self.now.jobs.tables.desk
    (c.runs.ensures.lines ∙ ap (λ s. map line_of s.jobs.tables.desk.runs) c.self.view_is) (omega (arith, c.if-number-le9999999.false))
