-- General facts of Result.
-- err-holds              what holds of an error holds of the error that is handed on
use Rattle.std.proofs.Common.{Err, IfErr, IsErrAnd, Ok, Result, subst, sym, ◌≡◌}

pub err-holds : {T E : Type 0} (r : Result T E) (error : E) (P : E → Type 0) → IsErrAnd r (λ e. e ≡ error) → P error → IfErr r P
err-holds (Ok x) error P is holds = tt
err-holds (Err e) error P is holds = subst P (sym is) holds
