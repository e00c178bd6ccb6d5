-- Where the records of a DD are, by what stands in its statement.
use Rattle.std.proofs.Common.{◌≡◌, true, false, map, refl}
use Rattle.ckr_jcl.specs.declared.deck.Origin.TheVariants.{InStream, Sysout, Dummy}
use Rattle.ckr_jcl_decks.specs.Parts.DdText.{DdText}
use Rattle.ckr_jcl_decks.specs.Deck.{bytes_of, dd_of, named_origin, origin_of}

pub origin-stream : (dd : DdText) → dd.in_stream ≡ true → origin_of dd ≡ InStream (map bytes_of dd.records)
unfolding origin_of
origin-stream dd stream = rw stream refl

pub origin-dummy : (dd : DdText) → dd.in_stream ≡ false → dd.dummy ≡ true → origin_of dd ≡ Dummy
unfolding origin_of
origin-dummy dd stream dummy = rw (stream, dummy) refl

pub origin-sysout : (dd : DdText) → dd.in_stream ≡ false → dd.dummy ≡ false → dd.sysout ≡ true → origin_of dd ≡ Sysout
unfolding origin_of
origin-sysout dd stream dummy sysout = rw (stream, dummy, sysout) refl

pub origin-named : (dd : DdText) → dd.in_stream ≡ false → dd.dummy ≡ false → dd.sysout ≡ false → origin_of dd ≡ named_origin dd.dsn
unfolding origin_of
origin-named dd stream dummy sysout = rw (stream, dummy, sysout) refl

pub dd_origin : (dd : DdText) → (dd_of dd).origin ≡ origin_of dd
unfolding dd_of
dd_origin dd = refl
