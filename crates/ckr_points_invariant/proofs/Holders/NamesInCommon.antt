-- Two runs that have a name in common have it written in both decks, or by the same root, or by the same owner.
use Rattle.std.proofs.Common.{◌≡◌, ℕ, zero, suc, Bool, true, false, List, [], ◌∷◌, ◌++◌, length, refl, ap, sym, ◌∙◌, Some, append_assoc, arith}
use Rattle.std.specs.Prelude.{codes, slice_get}
use Rattle.std.proofs.lemmas.Bool.{false≢true}
use Rattle.std.proofs.lemmas.List.{append_cancel_left}
use Rattle.std.proofs.lemmas.Option.{same_Some}
use Rattle.ckr_base.proofs.Options.{some-not-none}
use Rattle.ckr_base.proofs.Numbers.{suc-same}
use Rattle.ckr_base.proofs.Sequences.{head-same, tail-same}
use Rattle.ckr_jcl.specs.declared.deck.Origin.{Origin}
use Rattle.ckr_jcl.specs.declared.deck.Origin.TheVariants.{InStream, Named, Temporary, Unnamed, Sysout, Dummy}
use Rattle.ckr_library.specs.NameMaps.{Name}
use Rattle.ckr_uses.specs.SetNames.{origin_name, qualified, step_name}

-- ---- names with qualifiers

-- a name behind a front and a qualifier
abbrev own_name : Name → Name → Name → Name
own_name front qualifier tail = front ++ (46 ∷ (qualifier ++ 46 ∷ tail))

temporary-form : (front qualifier name : Name) → qualified (qualified front qualifier) name ≡ own_name front qualifier name
temporary-form front qualifier name = append_assoc front (46 ∷ qualifier) (46 ∷ name)

step-form : (front qualifier step dd : Name) → step_name front qualifier step dd ≡ own_name front qualifier (step ++ 46 ∷ dd)
step-form front qualifier step dd =
    append_assoc (qualified front qualifier) (46 ∷ step) (46 ∷ dd) ∙ append_assoc front (46 ∷ qualifier) ((46 ∷ step) ++ 46 ∷ dd)

-- fronts of the same length
pub fronts-same : (one other xs ys : List ℕ) → length one ≡ length other → one ++ xs ≡ other ++ ys → (one ≡ other) × (xs ≡ ys)
fronts-same [] [] xs ys long is = (refl, is)
fronts-same [] (second ∷ other) xs ys long is = absurd (zero-not-more (length other) long)
  where
    zero-not-more : (n : ℕ) → zero ≡ suc n → ⊥
    zero-not-more n e = cc
fronts-same (first ∷ one) [] xs ys long is = absurd (more-not-zero (length one) long)
  where
    more-not-zero : (n : ℕ) → suc n ≡ zero → ⊥
    more-not-zero n e = cc
fronts-same (first ∷ one) (second ∷ other) xs ys long is =
    let rest = fronts-same one other xs ys (suc-same (length one) (length other) long) (tail-same first second (one ++ xs) (other ++ ys) is) in
    (ap (λ byte. byte ∷ one) (head-same first second (one ++ xs) (other ++ ys) is) ∙ ap (λ bytes. second ∷ bytes) rest.0, rest.1)

-- behind the same front, with qualifiers of the same length
qualifiers-same : (front one other tail rest : Name) → length one ≡ length other → own_name front one tail ≡ own_name front other rest → (one ≡ other) × (tail ≡ rest)
qualifiers-same front one other tail rest long is =
    let parts = fronts-same one other (46 ∷ tail) (46 ∷ rest) long (tail-same 46 46 (one ++ 46 ∷ tail) (other ++ 46 ∷ rest) (append_cancel_left front (46 ∷ (one ++ 46 ∷ tail)) (46 ∷ (other ++ 46 ∷ rest)) is)) in
    (parts.0, tail-same 46 46 tail rest parts.1)

fronts-apart : (one other tail rest : Name) → own_name (codes "SYSTEMP") one tail ≡ own_name (codes "SYSOUT") other rest → ⊥
fronts-apart one other tail rest is = fourth (same_Some 84 79 (ap (λ n. slice_get n 3) is))
  where
    fourth : (let last : ℕ = 84 in last) ≡ (let last : ℕ = 79 in last) → ⊥
    fourth e = absurd (omega (arith, e))

-- ---- a name in common

-- how two DDs come to the same name: it is written in both, or they have the same root, or the same owner; then they have the same name
-- too with any other qualifier in its place
pub data InCommon (one two : Origin) (root owner step dd root2 owner2 step2 dd2 name : Name) : Type 0 where
  written : one ≡ Named name → two ≡ Named name → InCommon one two root owner step dd root2 owner2 step2 dd2 name
  by_root : root ≡ root2 → ((job : Name) → origin_name one job job step dd ≡ origin_name two job job step2 dd2) → InCommon one two root owner step dd root2 owner2 step2 dd2 name
  by_owner : owner ≡ owner2 → ((job : Name) → origin_name one job job step dd ≡ origin_name two job job step2 dd2) → InCommon one two root owner step dd root2 owner2 step2 dd2 name

-- the desk's own names and written ones are told apart
pub record TellsApart (is_own : Name → Bool) : Type 0 where
  pub temporary : (qualifier tail : Name) → is_own (own_name (codes "SYSTEMP") qualifier tail) ≡ true
  pub sysout : (qualifier tail : Name) → is_own (own_name (codes "SYSOUT") qualifier tail) ≡ true

-- what is written isn't such a name
abbrev pub IsWritten : (Name → Bool) → Origin → Type 0
IsWritten is_own (Named name) = is_own name ≡ false
IsWritten is_own _ = Unit {0}

module _ (is_own : Name → Bool) (tells : TellsApart is_own) (root owner step dd root2 owner2 step2 dd2 name : Name) (roots : length root ≡ length root2) (owners : length owner ≡ length owner2) where
  abbrev Common : Origin → Origin → Type 0
  Common one two = InCommon one two root owner step dd root2 owner2 step2 dd2 name

  not-written : (front qualifier tail given other : Name) → is_own given ≡ false → is_own (own_name front qualifier tail) ≡ true → Some given ≡ Some name → Some other ≡ Some name → other ≡ own_name front qualifier tail → ⊥
  not-written front qualifier tail given other free own one two form =
      false≢true (sym free ∙ ap is_own (same_Some given name one ∙ sym (same_Some other name two) ∙ form) ∙ own)

  both-own : (front tail rest one other : Name) (qualifier qualifier2 : Name) → length qualifier ≡ length qualifier2 → Some one ≡ Some name → Some other ≡ Some name → one ≡ own_name front qualifier tail → other ≡ own_name front qualifier2 rest → (qualifier ≡ qualifier2) × (tail ≡ rest)
  both-own front tail rest one other qualifier qualifier2 long e f form form2 =
      qualifiers-same front qualifier qualifier2 tail rest long (sym form ∙ same_Some one name e ∙ sym (same_Some other name f) ∙ form2)

  apart : (tail rest one other qualifier qualifier2 : Name) → Some one ≡ Some name → Some other ≡ Some name → one ≡ own_name (codes "SYSTEMP") qualifier tail → other ≡ own_name (codes "SYSOUT") qualifier2 rest → ⊥
  apart tail rest one other qualifier qualifier2 e f form form2 =
      fronts-apart qualifier qualifier2 tail rest (sym form ∙ same_Some one name e ∙ sym (same_Some other name f) ∙ form2)

  stand-in : (front tail rest : Name) (one other : Name → Name) → ((job : Name) → one job ≡ own_name front job tail) → ((job : Name) → other job ≡ own_name front job rest) → tail ≡ rest → (job : Name) → Some (one job) ≡ Some (other job)
  stand-in front tail rest one other form form2 same job = ap Some (form job ∙ ap (own_name front job) same ∙ sym (form2 job))

  pub in-common : (one two : Origin) → IsWritten is_own one → IsWritten is_own two → origin_name one root owner step dd ≡ Some name → origin_name two root2 owner2 step2 dd2 ≡ Some name → Common one two
  in-common (InStream cards) two free other e f = absurd (some-not-none name (sym e))
  in-common Dummy two free other e f = absurd (some-not-none name (sym e))
  in-common one (InStream cards) free other e f = absurd (some-not-none name (sym f))
  in-common one Dummy free other e f = absurd (some-not-none name (sym f))
  in-common (Named one) (Named two) free other e f = written (ap Named (same_Some one name e)) (ap Named (same_Some two name f))
  in-common (Named one) (Temporary two) free other e f = absurd (not-written (codes "SYSTEMP") root2 two one _ free (tells.temporary root2 two) e f (temporary-form (codes "SYSTEMP") root2 two))
  in-common (Named one) Unnamed free other e f = absurd (not-written (codes "SYSTEMP") root2 (step2 ++ 46 ∷ dd2) one _ free (tells.temporary root2 (step2 ++ 46 ∷ dd2)) e f (step-form (codes "SYSTEMP") root2 step2 dd2))
  in-common (Named one) Sysout free other e f = absurd (not-written (codes "SYSOUT") owner2 (step2 ++ 46 ∷ dd2) one _ free (tells.sysout owner2 (step2 ++ 46 ∷ dd2)) e f (step-form (codes "SYSOUT") owner2 step2 dd2))
  in-common (Temporary one) (Named two) free other e f = absurd (not-written (codes "SYSTEMP") root one two _ other (tells.temporary root one) f e (temporary-form (codes "SYSTEMP") root one))
  in-common Unnamed (Named two) free other e f = absurd (not-written (codes "SYSTEMP") root (step ++ 46 ∷ dd) two _ other (tells.temporary root (step ++ 46 ∷ dd)) f e (step-form (codes "SYSTEMP") root step dd))
  in-common Sysout (Named two) free other e f = absurd (not-written (codes "SYSOUT") owner (step ++ 46 ∷ dd) two _ other (tells.sysout owner (step ++ 46 ∷ dd)) f e (step-form (codes "SYSOUT") owner step dd))
  in-common (Temporary one) (Temporary two) free other e f =
      let parts = both-own (codes "SYSTEMP") one two _ _ root root2 roots e f (temporary-form (codes "SYSTEMP") root one) (temporary-form (codes "SYSTEMP") root2 two) in
      by_root parts.0 (stand-in (codes "SYSTEMP") one two _ _ (λ job. temporary-form (codes "SYSTEMP") job one) (λ job. temporary-form (codes "SYSTEMP") job two) parts.1)
  in-common (Temporary one) Unnamed free other e f =
      let parts = both-own (codes "SYSTEMP") one (step2 ++ 46 ∷ dd2) _ _ root root2 roots e f (temporary-form (codes "SYSTEMP") root one) (step-form (codes "SYSTEMP") root2 step2 dd2) in
      by_root parts.0 (stand-in (codes "SYSTEMP") one (step2 ++ 46 ∷ dd2) _ _ (λ job. temporary-form (codes "SYSTEMP") job one) (λ job. step-form (codes "SYSTEMP") job step2 dd2) parts.1)
  in-common Unnamed (Temporary two) free other e f =
      let parts = both-own (codes "SYSTEMP") (step ++ 46 ∷ dd) two _ _ root root2 roots e f (step-form (codes "SYSTEMP") root step dd) (temporary-form (codes "SYSTEMP") root2 two) in
      by_root parts.0 (stand-in (codes "SYSTEMP") (step ++ 46 ∷ dd) two _ _ (λ job. step-form (codes "SYSTEMP") job step dd) (λ job. temporary-form (codes "SYSTEMP") job two) parts.1)
  in-common Unnamed Unnamed free other e f =
      let parts = both-own (codes "SYSTEMP") (step ++ 46 ∷ dd) (step2 ++ 46 ∷ dd2) _ _ root root2 roots e f (step-form (codes "SYSTEMP") root step dd) (step-form (codes "SYSTEMP") root2 step2 dd2) in
      by_root parts.0 (stand-in (codes "SYSTEMP") (step ++ 46 ∷ dd) (step2 ++ 46 ∷ dd2) _ _ (λ job. step-form (codes "SYSTEMP") job step dd) (λ job. step-form (codes "SYSTEMP") job step2 dd2) parts.1)
  in-common Sysout Sysout free other e f =
      let parts = both-own (codes "SYSOUT") (step ++ 46 ∷ dd) (step2 ++ 46 ∷ dd2) _ _ owner owner2 owners e f (step-form (codes "SYSOUT") owner step dd) (step-form (codes "SYSOUT") owner2 step2 dd2) in
      by_owner parts.0 (stand-in (codes "SYSOUT") (step ++ 46 ∷ dd) (step2 ++ 46 ∷ dd2) _ _ (λ job. step-form (codes "SYSOUT") job step dd) (λ job. step-form (codes "SYSOUT") job step2 dd2) parts.1)
  in-common (Temporary one) Sysout free other e f = absurd (apart one (step2 ++ 46 ∷ dd2) _ _ root owner2 e f (temporary-form (codes "SYSTEMP") root one) (step-form (codes "SYSOUT") owner2 step2 dd2))
  in-common Unnamed Sysout free other e f = absurd (apart (step ++ 46 ∷ dd) (step2 ++ 46 ∷ dd2) _ _ root owner2 e f (step-form (codes "SYSTEMP") root step dd) (step-form (codes "SYSOUT") owner2 step2 dd2))
  in-common Sysout (Temporary two) free other e f = absurd (apart two (step ++ 46 ∷ dd) _ _ root2 owner f e (temporary-form (codes "SYSTEMP") root2 two) (step-form (codes "SYSOUT") owner step dd))
  in-common Sysout Unnamed free other e f = absurd (apart (step2 ++ 46 ∷ dd2) (step ++ 46 ∷ dd) _ _ root2 owner f e (step-form (codes "SYSTEMP") root2 step2 dd2) (step-form (codes "SYSOUT") owner step dd))
