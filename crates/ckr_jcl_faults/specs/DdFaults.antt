-- The rules that are looked at DD by DD.
use Rattle.std.specs.Prelude.{ℕ, ◌&&◌, ◌||◌, not, Bool, true, false, nat_le, List, length, Option, Some, None, codes, bytes_eq}
use Rattle.std.specs.Option.{is_none}
use Rattle.ckr_jcl.specs.declared.deck.Role.{Role}
use Rattle.ckr_jcl.specs.declared.deck.Role.TheVariants.{Reads, Writes, Updates, Checkpoints, Unused}
use Rattle.ckr_jcl.specs.declared.deck.Status.{Status}
use Rattle.ckr_jcl.specs.declared.deck.Status.TheVariants.{New, Old, Shr, Mod}
use Rattle.ckr_jcl.specs.declared.deck.After.{After}
use Rattle.ckr_jcl.specs.declared.deck.After.TheVariants.{Keep, Catlg, Uncatlg}
use Rattle.ckr_jcl_operands.specs.declared.dd_values.DsnText.{DsnText}
use Rattle.ckr_jcl_operands.specs.declared.dd_values.DsnText.TheVariants.{Passing, Referring, IllFormed}
use Rattle.ckr_jcl_operands.specs.declared.dd_values.VolText.{VolText}
use Rattle.ckr_jcl_operands.specs.declared.dd_values.VolText.TheVariants.{Elsewhere}
use Rattle.ckr_jcl_faults.specs.declared.dd_faults.DdRule.{DdRule}
use Rattle.ckr_jcl_faults.specs.declared.dd_faults.DdRule.TheVariants.{LeftOut, IllNamed, WrongUse, WrongSpace, WrongRecords}
use Rattle.ckr_jcl_faults.specs.declared.deck_text.DdText.{DdText}
use Rattle.ckr_jcl_operands.specs.DcbValues.{is_unfixed_dcb}
use Rattle.ckr_jcl.specs.Programs.{is_unused}

abbrev pub is_new : Status → Bool
is_new New = true
is_new _ = false

abbrev pub is_old : Status → Bool
is_old Old = true
is_old _ = false

abbrev pub is_shared : Status → Bool
is_shared Shr = true
is_shared _ = false

abbrev pub is_mod : Status → Bool
is_mod Mod = true
is_mod _ = false

abbrev pub is_temporary : Option DsnText → Bool
is_temporary (Some (Passing name)) = true
is_temporary _ = false

abbrev pub is_referring_name : Option DsnText → Bool
is_referring_name (Some Referring) = true
is_referring_name _ = false

abbrev pub is_ill_formed : Option DsnText → Bool
is_ill_formed (Some IllFormed) = true
is_ill_formed _ = false

abbrev pub is_elsewhere : Option VolText → Bool
is_elsewhere (Some Elsewhere) = true
is_elsewhere _ = false

abbrev pub is_library : List ℕ → Bool
is_library name = bytes_eq (codes "JOBLIB") name || bytes_eq (codes "STEPLIB") name

-- a form that this desk leaves out
unfoldable pub is_left_out_dd : DdText → Bool
is_left_out_dd dd =
    is_referring_name dd.dsn || is_elsewhere dd.volume || dd.dcb.refers || is_library dd.name || dd.dummy && not (is_unused dd.role)

-- what a status and a place of the records don't allow in a role
unfoldable pub breaks_role : Role → DdText → Bool
breaks_role Reads dd = (is_new dd.disp.status || is_mod dd.disp.status) && not dd.in_stream
breaks_role Writes dd = dd.in_stream || is_shared dd.disp.status
breaks_role Updates dd = dd.in_stream || not (is_old dd.disp.status)
breaks_role Checkpoints dd = dd.in_stream || is_shared dd.disp.status || dd.sysout
breaks_role Unused dd = false

abbrev pub keeps : Option After → Bool
keeps (Some Keep) = true
keeps (Some Catlg) = true
keeps (Some Uncatlg) = true
keeps _ = false

-- against its role, a temporary data set that is kept, or an unnamed one that exists
unfoldable pub is_wrong_use : DdText → Bool
is_wrong_use dd =
    breaks_role dd.role dd
    || is_temporary dd.dsn && (keeps dd.disp.normal || keeps dd.disp.abnormal)
    || is_none dd.dsn && not (is_new dd.disp.status)

abbrev pub is_out_of_space : Option ℕ → Bool
is_out_of_space None = false
is_out_of_space (Some space) = not (nat_le 1 space && nat_le space 1000000)

abbrev pub wants_space : DdText → Bool
wants_space dd = is_new dd.disp.status && is_none dd.space && not (dd.sysout || dd.in_stream || dd.dummy)

-- NEW without SPACE, or a space of 0 or of too many records
unfoldable pub is_wrong_space : DdText → Bool
is_wrong_space dd = wants_space dd || is_out_of_space dd.space

abbrev pub is_chkdd : DdText → Bool
is_chkdd dd = bytes_eq (codes "CHKDD") dd.name

abbrev pub is_out_of_length : Option ℕ → Bool
is_out_of_length None = false
is_out_of_length (Some length) = not (nat_le 1 length && nat_le length 256)

-- RECFM V or U, or LRECL outside 1 to 256, but on CHKDD
unfoldable pub is_wrong_record : DdText → Bool
is_wrong_record dd = not (is_chkdd dd) && (is_unfixed_dcb dd.dcb || is_out_of_length dd.dcb.length)

-- a rule that is looked at DD by DD
unfoldable pub breaks : DdRule → DdText → Bool
breaks LeftOut dd = is_left_out_dd dd
breaks IllNamed dd = is_ill_formed dd.dsn
breaks WrongUse dd = is_wrong_use dd
breaks WrongSpace dd = is_wrong_space dd
breaks WrongRecords dd = is_wrong_record dd
