-- Whether two steps have the same statements: RD isn't compared, and in-stream records are.
use Rattle.std.specs.Prelude.{ℕ, ◌==◌, Bool, ◌&&◌, List, [], nat_eq}
use Rattle.std.specs.Option.{option_eq}
use Rattle.std.specs.Cmp.Lexicographic.{pointwise}
use Rattle.ckr_jcl.specs.declared.deck.After.{After}
use Rattle.ckr_jcl.specs.declared.deck.After.TheVariants.{Delete, Keep, Pass, Catlg, Uncatlg}
use Rattle.ckr_jcl.specs.declared.deck.Cond.{Cond}
use Rattle.ckr_jcl.specs.declared.deck.CondOp.{CondOp}
use Rattle.ckr_jcl.specs.declared.deck.CondOp.TheVariants.{Gt, Ge, Eq, Lt, Le, Ne}
use Rattle.ckr_jcl.specs.declared.deck.Dd.{Dd}
use Rattle.ckr_jcl.specs.declared.deck.Disp.{Disp}
use Rattle.ckr_jcl.specs.declared.deck.Kind.{Kind}
use Rattle.ckr_jcl.specs.declared.deck.Kind.TheVariants.{Copy, Select, Merge, Master, Update, Print, Br14}
use Rattle.ckr_jcl.specs.declared.deck.Origin.{Origin}
use Rattle.ckr_jcl.specs.declared.deck.Origin.TheVariants.{InStream, Named, Temporary, Unnamed, Sysout, Dummy}
use Rattle.ckr_jcl.specs.declared.deck.Parm.{Parm}
use Rattle.ckr_jcl.specs.declared.deck.Status.{Status}
use Rattle.ckr_jcl.specs.declared.deck.Status.TheVariants.{New, Old, Shr, Mod}
use Rattle.ckr_jcl.specs.declared.deck.Step.{Step}

abbrev pub same_bytes : List ℕ → List ℕ → Bool
same_bytes = pointwise nat_eq

abbrev pub kind_number : Kind → ℕ
kind_number Copy = 1
kind_number Select = 2
kind_number Merge = 3
kind_number Master = 4
kind_number Update = 5
kind_number Print = 6
kind_number Br14 = 7

abbrev pub after_number : After → ℕ
after_number Delete = 1
after_number Keep = 2
after_number Pass = 3
after_number Catlg = 4
after_number Uncatlg = 5

abbrev pub status_number : Status → ℕ
status_number New = 1
status_number Old = 2
status_number Shr = 3
status_number Mod = 4

abbrev pub op_number : CondOp → ℕ
op_number Gt = 1
op_number Ge = 2
op_number Eq = 3
op_number Lt = 4
op_number Le = 5
op_number Ne = 6

abbrev pub same_after : After → After → Bool
same_after first second = after_number first == after_number second

abbrev pub same_disp : Disp → Disp → Bool
same_disp first second =
    status_number first.status == status_number second.status
    && option_eq same_after first.normal second.normal && option_eq same_after first.abnormal second.abnormal

-- an origin as its kind, its text and its records
abbrev pub origin_parts : Origin → ℕ × List ℕ × List (List ℕ)
origin_parts (InStream cards) = (1, [], cards)
origin_parts (Named name) = (2, name, [])
origin_parts (Temporary name) = (3, name, [])
origin_parts Unnamed = (4, [], [])
origin_parts Sysout = (5, [], [])
origin_parts Dummy = (6, [], [])

abbrev pub same_origin : Origin → Origin → Bool
same_origin first second =
    let one = origin_parts first in
    let other = origin_parts second in
    one.0 == other.0 && same_bytes one.1 other.1 && pointwise same_bytes one.2 other.2

abbrev pub same_dd : Dd → Dd → Bool
same_dd first second =
    same_bytes first.name second.name && same_origin first.origin second.origin && same_disp first.disp second.disp
    && pointwise same_bytes first.volumes.items second.volumes.items
    && option_eq nat_eq first.space second.space && first.lrecl == second.lrecl

abbrev pub same_cond : Cond → Cond → Bool
same_cond first second =
    first.code == second.code && op_number first.op == op_number second.op && option_eq nat_eq first.step second.step

abbrev pub same_parm : Parm → Parm → Bool
same_parm first second =
    first.chk == second.chk && same_bytes first.ids.items second.ids.items && first.cancel == second.cancel
    && first.key.0 == second.key.0 && first.key.1 == second.key.1 && first.col == second.col
    && same_bytes first.val.items second.val.items && same_bytes first.title.items second.title.items
    && first.sum.0 == second.sum.0 && first.sum.1 == second.sum.1

-- whether two steps have the same statements
abbrev pub same_statements : Step → Step → Bool
same_statements first second =
    same_bytes first.name second.name && kind_number first.program == kind_number second.program
    && same_parm first.parm second.parm && pointwise same_cond first.cond second.cond && pointwise same_dd first.dds second.dds
