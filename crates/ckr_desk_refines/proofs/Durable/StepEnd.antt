-- What dispositions and the end of a run leave of the data sets of the tables are data sets that were there.
use Rattle.std.proofs.Common.{◌≡◌, Bool, true, false, cond, List, [], ◌∷◌, refl, sym, ◌∙◌, subst, Option, Some, None, if◌then◌else◌, arith}
use Rattle.std.specs.Option.{option_map}
use Rattle.std.proofs.lemmas.Option.{same_Some}
use Rattle.ckr_base.proofs.Options.{some-not-none}
use Rattle.ckr_entry.specs.declared.point.Passed.{Passed}
use Rattle.ckr_jcl.specs.declared.deck.After.{After}
use Rattle.ckr_jcl.specs.declared.deck.After.TheVariants.{Delete, Keep, Pass, Catlg, Uncatlg}
use Rattle.ckr_library.specs.NameMaps.{Name, Named, same_name, entry_at, with_changed, without_entry}
use Rattle.ckr_library.proofs.Named.{at-with_changed, at-without_entry}
use Rattle.ckr_meaning.specs.Dispositions.{Disposal, Stock, disposed_all, disposed_one, passed_ended, sets_after}
use Rattle.ckr_points.specs.Rows.{TableSet, table_ways}
use Rattle.ckr_desk_refines.specs.Origins.{IsPartOf}

-- a data set of earlier ones, of which this one is a part
abbrev pub StaysFrom : Named TableSet → Name → TableSet → Type 0
StaysFrom sets name table = (old : TableSet) × (entry_at sets name ≡ Some old) × IsPartOf table.set old.set

pub part-itself : (table : TableSet) → IsPartOf table.set table.set
part-itself table = record { parts = refl; lrecl = refl; stamp = refl; content = refl; shorter = omega arith }

pub part-twice : (one two three : TableSet) → IsPartOf one.set two.set → IsPartOf two.set three.set → IsPartOf one.set three.set
part-twice one two three first second = record {
  parts = first.parts ∙ second.parts;
  lrecl = first.lrecl ∙ second.lrecl;
  stamp = first.stamp ∙ second.stamp;
  content = first.content ∙ second.content;
  shorter = let a = first.shorter in let b = second.shorter in omega (arith, a, b);
}

pub without-from : (name other : Name) (sets : Named TableSet) (table : TableSet) → entry_at (without_entry other sets) name ≡ Some table → StaysFrom sets name table
without-from name other sets table e = by (same_name name other) (sym (at-without_entry other name sets) ∙ e)
  where
    by : (same : Bool) → cond same None (entry_at sets name) ≡ Some table → StaysFrom sets name table
    by true its = absurd (some-not-none table (sym its))
    by false its = (table, its, part-itself table)

-- a data set is changed to a part of itself
pub changed-from : (name other : Name) (change : TableSet → TableSet) → ((table : TableSet) → IsPartOf (change table).set table.set) → (sets : Named TableSet) (table : TableSet) → entry_at (with_changed other change sets) name ≡ Some table → StaysFrom sets name table
changed-from name other change part sets table e =
    by (same_name name other) (entry_at sets name) refl (sym (at-with_changed other name change sets) ∙ e)
  where
    by : (same : Bool) (entry : Option TableSet) → entry_at sets name ≡ entry → cond same (option_map change entry) entry ≡ Some table → StaysFrom sets name table
    by true None e its = absurd (some-not-none table (sym its))
    by true (Some old) e its = (old, e, subst (λ (t : TableSet). IsPartOf t.set old.set) (same_Some (change old) table its) (part old))
    by false entry e its = (table, e ∙ its, part-itself table)

pub marked-from : (name other : Name) (on : Bool) (sets : Named TableSet) (table : TableSet) → entry_at (with_changed other (table_ways.marked on) sets) name ≡ Some table → StaysFrom sets name table
marked-from name other on sets table e =
    changed-from name other (table_ways.marked on) (λ old. record { parts = refl; lrecl = refl; stamp = refl; content = refl; shorter = omega arith }) sets table e

after-from : (name : Name) (after : After) (other : Name) (sets : Named TableSet) (table : TableSet) → entry_at (sets_after table_ways after other sets) name ≡ Some table → StaysFrom sets name table
after-from name Delete other sets table e = without-from name other sets table e
after-from name Keep other sets table e = (table, e, part-itself table)
after-from name Pass other sets table e = (table, e, part-itself table)
after-from name Catlg other sets table e = marked-from name other true sets table e
after-from name Uncatlg other sets table e = marked-from name other false sets table e

pub disposed-from : (name : Name) (disposals : List Disposal) (standing : Stock TableSet) (table : TableSet) → entry_at (disposed_all table_ways disposals standing).sets name ≡ Some table → StaysFrom standing.sets name table
disposed-from name [] standing table e = (table, e, part-itself table)
disposed-from name (one ∷ rest) standing table e =
    let later = disposed-from name rest (disposed_one table_ways one standing) table e in
    let first = after-from name one.after one.name standing.sets later.0 later.1 in
    (first.0, first.1, part-twice table later.0 first.0 later.2 first.2)

pub ended-from : (name : Name) (passed : List Passed) (sets : Named TableSet) (table : TableSet) → entry_at (passed_ended passed sets) name ≡ Some table → StaysFrom sets name table
ended-from name [] sets table e = (table, e, part-itself table)
ended-from name (one ∷ rest) sets table e = by one.made (ended-from name rest _ table e)
  where
    by : (goes : Bool) → StaysFrom (if goes then without_entry one.name sets else sets) name table → StaysFrom sets name table
    by true its =
        let first = without-from name one.name sets its.0 its.1 in
        (first.0, first.1, part-twice table its.0 first.0 its.2 first.2)
    by false its = its

-- of the end behind dispositions
pub both-from : (name : Name) (passed : List Passed) (disposals : List Disposal) (standing : Stock TableSet) (table : TableSet) → entry_at (passed_ended passed (disposed_all table_ways disposals standing).sets) name ≡ Some table → StaysFrom standing.sets name table
both-from name passed disposals standing table e =
    let later = ended-from name passed (disposed_all table_ways disposals standing).sets table e in
    let first = disposed-from name disposals standing later.0 later.1 in
    (first.0, first.1, part-twice table later.0 first.0 later.2 first.2)
