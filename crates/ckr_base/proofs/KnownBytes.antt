-- What is known of the bytes of a sink and of a source: one piece after another.
-- Appends-nil            nothing is appended
-- Appends-trans          a piece, and another behind it
-- Consumes-trans         a piece, and another behind it
use Rattle.std.proofs.Common.{List, None, Option, Some, [], ap, append-nil, append_assoc, sym, ℕ, ◌++◌, ◌∙◌}
use Rattle.std.specs.Io.KnownBytes.{Appends, Consumes}

pub Appends-nil : (a : Option (List ℕ)) → Appends a a []
Appends-nil None = tt
Appends-nil (Some x) = sym (append-nil x)

pub Appends-trans : (a b c : Option (List ℕ)) (bs cs : List ℕ) → Appends a b bs → Appends b c cs → Appends a c (bs ++ cs)
Appends-trans None b c bs cs p q = tt
Appends-trans (Some x) None c bs cs p q = absurd p
Appends-trans (Some x) (Some y) None bs cs p q = absurd q
Appends-trans (Some x) (Some y) (Some z) bs cs p q = q ∙ ap (λ l. l ++ cs) p ∙ append_assoc x bs cs

pub Consumes-trans : (a b c : Option (List ℕ)) (xs ys : List ℕ) → Consumes a b xs → Consumes b c ys → Consumes a c (xs ++ ys)
Consumes-trans None b c xs ys p q = tt
Consumes-trans (Some x) None c xs ys p q = absurd p
Consumes-trans (Some x) (Some y) None xs ys p q = absurd q
Consumes-trans (Some x) (Some y) (Some z) xs ys p q = p ∙ ap (λ l. xs ++ l) q ∙ sym (append_assoc xs ys z)
