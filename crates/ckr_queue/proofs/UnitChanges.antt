-- What each call keeps of the units.
use Rattle.std.proofs.Common.{◌≡◌, ℕ, zero, suc, ◌≤◌, ◌==◌, false, true, ◌∙◌, IsTrue, List, None, Some, arith, replicate, refl, subst, sym, take}
use Rattle.std.specs.List.{count_by}
use Rattle.ckr_base.proofs.Bools.{false-not-true, or-cases}
use Rattle.ckr_base.proofs.Numbers.{equal-true}
use Rattle.ckr_base.proofs.Sequences.{all-at}
use Rattle.ckr_queue.specs.Units.{AreUnits, UnitTable, are_mounted, is_among, is_carried, is_mounted, is_used, no_units, unit_for_of, with_fewer_uses, with_more_uses, with_volume}
use Rattle.ckr_queue.proofs.Counts.{count-no}
use Rattle.ckr_queue.proofs.Assignments.{unit-for, units-later}
use Rattle.ckr_queue.proofs.Pins.{used-fewer, used-more}

none-carried : (volume count more : ℕ) → count_by (is_carried volume) (take count (replicate more None)) ≡ 0
none-carried volume zero more = refl
none-carried volume (suc count) zero = refl
none-carried volume (suc count) (suc more) = count-no (is_carried volume) None (take count (replicate more None)) refl ∙ omega (arith, none-carried volume count more)

none-used : (more volume : ℕ) → is_used (replicate more 0) volume ≡ false
none-used zero volume = refl
none-used (suc more) zero = refl
none-used (suc more) (suc volume) = none-used more volume

pub units-empty : (count : ℕ) → count ≤ 16 → AreUnits (no_units count)
units-empty count few = record {
  few = few;
  once = λ volume. omega (arith, none-carried volume count 16);
  mounted = λ volume used. false-not-true (sym (none-used 32 volume) ∙ used);
}

-- of the units that are seen so
module _ (t self : UnitTable) (seen : t ≡ self) (units : AreUnits t) where
  pub units-mounted : (volume unit : ℕ) → unit_for_of self volume ≡ Some unit → AreUnits (with_volume volume unit t)
  units-mounted volume unit place = units-later t units volume unit (unit-for t volume unit (subst (λ table. unit_for_of table volume ≡ Some unit) (sym seen) place))

  pub units-more : (volumes uses : List ℕ) → IsTrue (are_mounted self volumes) → uses ≡ with_more_uses volumes t.uses → AreUnits (record t { uses = uses })
  units-more volumes uses mounted more = subst (λ counts. AreUnits (record t { uses = counts })) (sym more) (record {
    few = units.few;
    once = units.once;
    mounted = λ volume used. or-cases (is_among volumes volume) (is_used t.uses volume) (used-more volumes t.uses volume used)
        (λ among.
        let one = all-at (is_mounted t) (λ other. other == volume) volumes (subst (λ table. are_mounted table volumes ≡ true) (sym seen) mounted) among in
        subst (λ v. is_mounted t v ≡ true) (equal-true one.0 volume one.2) one.1)
        (λ before. units.mounted volume before);
  })

  pub units-fewer : (volumes uses : List ℕ) → uses ≡ with_fewer_uses volumes t.uses → AreUnits (record t { uses = uses })
  units-fewer volumes uses fewer = subst (λ counts. AreUnits (record t { uses = counts })) (sym fewer) (record {
    few = units.few;
    once = units.once;
    mounted = λ volume used. units.mounted volume (used-fewer volumes t.uses volume used);
  })
