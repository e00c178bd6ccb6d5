-- PARMs, and the places of their errors.
use Rattle.ckr_jcl_decks.proofs.Definitions.{decks_open}
use Rattle.std.specs.Prelude.{◌≡◌, codes, refl, Ok, Err}
use Rattle.ckr_jcl.specs.declared.deck.Kind.TheVariants.{Copy, Select, Merge, Master, Print, Br14}
use Rattle.ckr_jcl.specs.ParmGrammar.{no_parm, read_parm_text}

-- items in any order
parm_of_copy : read_parm_text Copy (codes "IDS=A,CHK=20,CANCEL=30") ≡ Ok (record no_parm { chk = 20; ids = record { items = codes "A" }; cancel = 30 })
unfolding decks_open
parm_of_copy = refl

-- a value may have an equals sign
parm_of_select : read_parm_text Select (codes "VAL=A=B,COL=1") ≡ Ok (record no_parm { col = 1; val = record { items = codes "A=B" } })
unfolding decks_open
parm_of_select = refl

-- an empty PARM has no items
empty_parm : read_parm_text Copy (codes "") ≡ Ok no_parm
unfolding decks_open
empty_parm = refl

no_item_needed : read_parm_text Print (codes "") ≡ Ok no_parm
unfolding decks_open
no_item_needed = refl

-- the second item is wrong
leading_zero : read_parm_text Copy (codes "CHK=20,CANCEL=030") ≡ Err (record { place = 7 })
unfolding decks_open
leading_zero = refl

greatest_number : read_parm_text Copy (codes "CHK=9999999") ≡ Ok (record no_parm { chk = 9999999 })
unfolding decks_open
greatest_number = refl

number_beyond : read_parm_text Copy (codes "CHK=10000000") ≡ Err (record { place = 0 })
unfolding decks_open
number_beyond = refl

zero : read_parm_text Copy (codes "CHK=0") ≡ Err (record { place = 0 })
unfolding decks_open
zero = refl

-- a repeated item is wrong at its own place
twice : read_parm_text Copy (codes "CHK=1,CHK=1") ≡ Err (record { place = 6 })
unfolding decks_open
twice = refl

empty_item : read_parm_text Copy (codes "CHK=1,") ≡ Err (record { place = 6 })
unfolding decks_open
empty_item = refl

-- an item of another program is wrong
other_programs_item : read_parm_text Copy (codes "CHK=1,KEY=1:1") ≡ Err (record { place = 6 })
unfolding decks_open
other_programs_item = refl

-- the required KEY is missing: the text's length
key_missing : read_parm_text Master (codes "CHK=1") ≡ Err (record { place = 5 })
unfolding decks_open
key_missing = refl

value_missing : read_parm_text Select (codes "COL=1") ≡ Err (record { place = 5 })
unfolding decks_open
value_missing = refl

-- CANCEL and IDS need CHK
check_missing : read_parm_text Copy (codes "CANCEL=3") ≡ Err (record { place = 8 })
unfolding decks_open
check_missing = refl

check_missing_for_ids : read_parm_text Copy (codes "IDS=AB") ≡ Err (record { place = 6 })
unfolding decks_open
check_missing_for_ids = refl

-- a wrong item comes before a missing one
wrong_before_missing : read_parm_text Master (codes "CHK=1,FOO=1") ≡ Err (record { place = 6 })
unfolding decks_open
wrong_before_missing = refl

-- the column and the length are at most 256 together
key_end : read_parm_text Merge (codes "KEY=224:32") ≡ Ok (record no_parm { key = (224, 32) })
unfolding decks_open
key_end = refl

key_beyond : read_parm_text Merge (codes "KEY=225:32") ≡ Err (record { place = 0 })
unfolding decks_open
key_beyond = refl

key_long : read_parm_text Merge (codes "KEY=1:33") ≡ Err (record { place = 0 })
unfolding decks_open
key_long = refl

key_from_zero : read_parm_text Merge (codes "KEY=0:1") ≡ Err (record { place = 0 })
unfolding decks_open
key_from_zero = refl

-- together at most 257
sum_end : read_parm_text Print (codes "SUM=242:15") ≡ Ok (record no_parm { sum = (242, 15) })
unfolding decks_open
sum_end = refl

sum_beyond : read_parm_text Print (codes "SUM=243:15") ≡ Err (record { place = 0 })
unfolding decks_open
sum_beyond = refl

sum_long : read_parm_text Print (codes "SUM=1:16") ≡ Err (record { place = 0 })
unfolding decks_open
sum_long = refl

column_end : read_parm_text Select (codes "VAL=A,COL=256") ≡ Ok (record no_parm { col = 256; val = record { items = codes "A" } })
unfolding decks_open
column_end = refl

column_beyond : read_parm_text Select (codes "VAL=A,COL=257") ≡ Err (record { place = 6 })
unfolding decks_open
column_beyond = refl

-- a title has at most 40 bytes
title_end : read_parm_text Print (codes "TITLE=1234567890123456789012345678901234567890") ≡ Ok (record no_parm { title = record { items = codes "1234567890123456789012345678901234567890" } })
unfolding decks_open
title_end = refl

title_beyond : read_parm_text Print (codes "TITLE=12345678901234567890123456789012345678901") ≡ Err (record { place = 0 })
unfolding decks_open
title_beyond = refl

ids_end : read_parm_text Copy (codes "IDS=AB34567@,CHK=1") ≡ Ok (record no_parm { chk = 1; ids = record { items = codes "AB34567@" } })
unfolding decks_open
ids_end = refl

ids_beyond : read_parm_text Copy (codes "IDS=AB345678@,CHK=1") ≡ Err (record { place = 0 })
unfolding decks_open
ids_beyond = refl

-- IEFBR14 reads none of it
any_parm : read_parm_text Br14 (codes "CHK=0,,FOO") ≡ Ok no_parm
unfolding decks_open
any_parm = refl
