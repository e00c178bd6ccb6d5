-- What a stream asks is what its lines ask, one after the other.
use Rattle.std.proofs.Common.{◌≡◌, ℕ, List}
use Rattle.std.specs.Str.Lines.{lines}
use Rattle.ckr_session.specs.Model.Cut.{items_of}
use Rattle.ckr_session.specs.Model.Session.{first_session, handed_by}
use Rattle.ckr_session.proofs.Sessions.{handed_of-lines}
use Rattle.ckr_service.specs.Stream.{requests_of}

pub requests_of-lines : (bytes : List ℕ) → requests_of bytes ≡ handed_by first_session (lines bytes)
unfolding items_of
requests_of-lines bytes = handed_of-lines (lines bytes)
