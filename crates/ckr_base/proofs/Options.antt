-- General facts of Option. What std has is taken from there: same_Some, none-some, slice_get-map (`std.proofs.lemmas.Option`).
-- some-not-none          Some x is not None
-- option-cases           by an optional value, with its equation
-- is_none-true           what is_none tells is None
-- is_some-true           what is_some tells is some x
-- some-one               what is Some of two is one
-- is_some-from           what is Some x passes is_some
-- option_map-cond        option_map goes into a choice
-- option_map-some        what is some behind a change was some before
-- option_map-none        what is not some behind a change was None
-- option_map_or-true     a test of what there is passes: it is there, and passes
-- option_or-none         neither is there
-- and_then-some          a chain that comes to something
-- is_some-copied         an optional value that is copied is there or not as before
use Rattle.std.specs.Prelude.{option_and_then}
use Rattle.std.proofs.Common.{Bool, Bor, None, Option, Some, ap, cond, false, refl, sym, true, true≢false, ◌∙◌, ◌≡◌}
use Rattle.std.proofs.lemmas.Bool.{false≢true}
use Rattle.std.proofs.lemmas.Option.{same_Some}
use Rattle.std.specs.Option.{is_none, is_some, option_copied, option_map, option_map_or, option_or}

pub some-not-none : {A : Type 0} (x : A) → Some x ≡ None → ⊥
some-not-none x e = cc

-- a case of an optional value with its equation
pub option-cases : {X A : Type 0} (o : Option X) → (o ≡ None → A) → ((x : X) → o ≡ Some x → A) → A
option-cases None isnt does = isnt refl
option-cases (Some x) isnt does = does x refl

pub is_none-true : {A : Type 0} (o : Option A) → is_none o ≡ true → o ≡ None
is_none-true None e = refl
is_none-true (Some x) e = absurd (true≢false (sym e))

pub is_some-true : {A B : Type 0} (o : Option A) → is_some o ≡ true → ((x : A) → o ≡ Some x → B) → B
is_some-true None there use_it = absurd (false≢true there)
is_some-true (Some x) there use_it = use_it x refl

-- a view of a choice
pub option_map-cond : {X Y : Type 0} (view : X → Y) (b : Bool) (one other : Option X) → option_map view (cond b one other) ≡ cond b (option_map view one) (option_map view other)
option_map-cond view true one other = refl
option_map-cond view false one other = refl

pub some-one : {A : Type 0} (one other : A) (o : Option A) → o ≡ Some one → o ≡ Some other → one ≡ other
some-one one other o e f = same_Some one other (sym e ∙ f)

pub is_some-from : {A : Type 0} (o : Option A) (x : A) → o ≡ Some x → is_some o ≡ true
is_some-from o x e = ap is_some e

pub option_map-some : {X Y : Type 0} (change : X → Y) (o : Option X) (y : Y) → option_map change o ≡ Some y → (x : X) × (o ≡ Some x) × (change x ≡ y)
option_map-some change None y e = absurd (some-not-none y (sym e))
option_map-some change (Some x) y e = (x, refl, same_Some (change x) y e)

pub option_map-none : {X Y : Type 0} (change : X → Y) (o : Option X) → is_some (option_map change o) ≡ false → o ≡ None
option_map-none change None none = refl
option_map-none change (Some x) none = absurd (true≢false none)

pub option_map_or-true : {X A : Type 0} (o : Option X) (test : X → Bool) → option_map_or test o false ≡ true → ((x : X) → o ≡ Some x → test x ≡ true → A) → A
option_map_or-true None test passes use_it = absurd (false≢true passes)
option_map_or-true (Some x) test passes use_it = use_it x refl passes

pub option_or-none : {A : Type 0} (first second : Option A) → option_or first second ≡ None → (first ≡ None) × (second ≡ None)
option_or-none None second none = (refl, none)
option_or-none (Some x) second none = absurd (some-not-none x none)

pub and_then-some : {A B : Type 0} (f : A → Option B) (o : Option A) (b : B) → option_and_then f o ≡ Some b → (a : A) × (o ≡ Some a) × (f a ≡ Some b)
and_then-some f None b e = absurd (some-not-none b (sym e))
and_then-some f (Some a) b e = (a, refl, e)

pub is_some-copied : {A : Type 0} (item : Option (Bor A)) → is_some (option_copied item) ≡ is_some item
is_some-copied None = refl
is_some-copied (Some one) = refl
