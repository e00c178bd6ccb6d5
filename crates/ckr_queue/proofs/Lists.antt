-- Lists of volumes, one volume after another.
use Rattle.std.proofs.Common.{◌≡◌, ◌<◌, ◌≤◌, ◌≢◌, ◌∙◌, ◌+◌, ◌&&◌, ℕ, Bool, true, false, true≢false, arith, ap, refl, sym, length, List, [], ◌∷◌, nat_lt, get_or, set}
use Rattle.std.specs.List.{list_all}
use Rattle.std.proofs.lemmas.Bool.{ltb-true}
use Rattle.std.proofs.lemmas.List.{get_or-set_other}
use Rattle.ckr_queue.specs.Units.{is_volume_list}

pub both : (a b : Bool) → (a && b) ≡ true → (a ≡ true) × (b ≡ true)
both true b e = (refl, e)
both false b e = absurd (true≢false (sym e))

-- what holds of the first volume of a list, and of those behind it
pub record First (volume : ℕ) (rest : List ℕ) : Type 0 where
  pub low : volume < 32
  pub above : list_all (nat_lt volume) rest ≡ true
  pub list : is_volume_list rest ≡ true

pub first_of : (volume : ℕ) (rest : List ℕ) → is_volume_list (volume ∷ rest) ≡ true → First volume rest
first_of volume rest e =
    let parts = both (nat_lt volume 32) _ e in
    let more = both (list_all (nat_lt volume) rest) _ parts.1 in
    record { low = ltb-true volume 32 parts.0; above = more.0; list = more.1 }

-- a list is short: its numbers are below 32, and ascend
short_above : (volumes : List ℕ) (low : ℕ) → low < 32 → list_all (nat_lt low) volumes ≡ true → is_volume_list volumes ≡ true → length volumes + low < 32
short_above [] low below above list = omega arith
short_above (volume ∷ rest) low below above list =
    let first = first_of volume rest list in
    let ascends = ltb-true low volume (both (nat_lt low volume) _ above).0 in
    let behind = short_above rest volume first.low first.above first.list in
    omega arith

pub short_list : (volumes : List ℕ) → is_volume_list volumes ≡ true → length volumes ≤ 32
short_list [] list = omega arith
short_list (volume ∷ rest) list =
    let first = first_of volume rest list in
    let behind = short_above rest volume first.low first.above first.list in
    omega arith

-- a test of the counts of volumes above this one stays where the count of this one changes
pub others_stay : (test : ℕ → Bool) (counts : List ℕ) (volume count : ℕ) (rest : List ℕ) → list_all (nat_lt volume) rest ≡ true
    → list_all (λ v. test (get_or counts v 0)) rest ≡ true → list_all (λ v. test (get_or (set counts volume count) v 0)) rest ≡ true
others_stay test counts volume count [] above all = refl
others_stay test counts volume count (v ∷ rest) above all =
    let apart = both (nat_lt volume v) _ above in
    let passes = both (test (get_or counts v 0)) _ all in
    let other : v ≢ volume = λ e. let lt = ltb-true volume v apart.0 in omega arith in
    let same : get_or (set counts volume count) v 0 ≡ get_or counts v 0 = get_or-set_other counts volume v count 0 other in
    let here : test (get_or (set counts volume count) v 0) ≡ true = ap test same ∙ passes.0 in
    rw here (others_stay test counts volume count rest apart.1 passes.1)
