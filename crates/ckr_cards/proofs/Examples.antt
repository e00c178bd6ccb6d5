-- Streams and statements, computed.
use Rattle.ckr_cards.specs.declared.cutter.Line.TheVariants.{Starts as StartsDeck, Card as CardOfDeck, Ends as EndsDeck, Command as CommandLine, Stray as StrayLine, Ignored as IgnoredLine}
use Rattle.ckr_cards.specs.declared.operand.Operand.{Operand}
use Rattle.ckr_cards.proofs.Definitions.{statements_open}
use Rattle.std.specs.Prelude.{◌≡◌, ℕ, true, false, List, [], ◌∷◌, ◌++◌, codes, refl, map, flat_map}
use Rattle.ckr_cards.specs.Card.{cards_of_lines}
use Rattle.ckr_cards.specs.Cut.{items_of, line_kinds}
use Rattle.ckr_cards.specs.Cut.Item.{DeckOf, Command, Refused, Ignored}
use Rattle.ckr_cards.specs.Statement.{statements_of}

-- a stream of lines that each end in a line feed
abbrev stream : List (List ℕ) → List ℕ
stream lines = flat_map (λ line. line ++ 10 ∷ []) lines

-- the deck, the null card that ends it, two commands and a line that is refused
items : items_of (stream (codes "" ∷ codes "//J JOB" ∷ codes "//S EXEC PGM=IEFBR14" ∷ codes "//" ∷ codes "$T 1 9" ∷ codes "T 1 9" ∷ []) ++ codes "$O")
    ≡ record { number = 1; item = Ignored [] }
    ∷ record { number = 2; item = DeckOf (codes "//J JOB" ∷ codes "//S EXEC PGM=IEFBR14" ∷ []) }
    ∷ record { number = 4; item = Ignored (codes "//") }
    ∷ record { number = 5; item = Command (codes "$T 1 9") }
    ∷ record { number = 6; item = Refused (codes "T 1 9") }
    ∷ record { number = 7; item = Command (codes "$O") }
    ∷ []
unfolding statements_open
items = refl

-- a carriage return before a line feed is dropped, and no other one
carriage_returns : items_of (65 ∷ 13 ∷ 10 ∷ 13 ∷ 66 ∷ 10 ∷ 67 ∷ 13 ∷ [])
    ≡ record { number = 1; item = Refused (65 ∷ []) } ∷ record { number = 2; item = Refused (13 ∷ 66 ∷ []) } ∷ record { number = 3; item = Refused (67 ∷ 13 ∷ []) } ∷ []
unfolding statements_open
carriage_returns = refl

-- a command within in-stream records is a record, and one outside ends the deck
records_take_commands : line_kinds (codes "//J JOB" ∷ codes "//S EXEC PGM=COPY" ∷ codes "//A DD *" ∷ codes "$T 1 1" ∷ codes "/*" ∷ codes "$T 1 1" ∷ [])
    ≡ StartsDeck ∷ CardOfDeck ∷ CardOfDeck ∷ CardOfDeck ∷ CardOfDeck ∷ CommandLine ∷ []
unfolding statements_open
records_take_commands = refl

-- within DATA records the null card and a JOB card are records
data_takes_all : line_kinds (codes "//J JOB" ∷ codes "//A DD DATA," ∷ codes "// DCB=LRECL=80" ∷ codes "//" ∷ codes "//K JOB" ∷ codes "/*" ∷ codes "//K JOB" ∷ codes "//" ∷ codes "//" ∷ [])
    ≡ StartsDeck ∷ CardOfDeck ∷ CardOfDeck ∷ CardOfDeck ∷ CardOfDeck ∷ CardOfDeck ∷ StartsDeck ∷ EndsDeck ∷ IgnoredLine ∷ []
unfolding statements_open
data_takes_all = refl

-- where its continuation is missing or wrong a DD begins no records
missing_begins_no_records : line_kinds (codes "//J JOB" ∷ codes "//A DD DATA," ∷ codes "$T 1 1" ∷ []) ≡ StartsDeck ∷ CardOfDeck ∷ CommandLine ∷ []
unfolding statements_open
missing_begins_no_records = refl

wrong_begins_no_records : line_kinds (codes "//J JOB" ∷ codes "//A DD DATA," ∷ codes "//              DCB=LRECL=80," ∷ codes "$T 1 1" ∷ [])
    ≡ StartsDeck ∷ CardOfDeck ∷ CardOfDeck ∷ CommandLine ∷ []
unfolding statements_open
wrong_begins_no_records = refl

-- a JOB card with an ill formed name starts no deck, and ends none
ill_formed_start : line_kinds (codes "//1J JOB" ∷ codes "" ∷ codes "//* A" ∷ codes "/*" ∷ codes "//J JOB" ∷ codes "//1J JOB" ∷ [])
    ≡ StrayLine ∷ IgnoredLine ∷ IgnoredLine ∷ IgnoredLine ∷ StartsDeck ∷ CardOfDeck ∷ []
unfolding statements_open
ill_formed_start = refl

-- the null card ends a deck also where a card calls for a continuation; columns 72 to 80 of it aren't read
null_behind_comma : line_kinds (codes "//J JOB" ∷ codes "//A DD DSN=X.A," ∷ codes "//                                                                     ABC" ∷ [])
    ≡ StartsDeck ∷ CardOfDeck ∷ EndsDeck ∷ []
unfolding statements_open
null_behind_comma = refl

-- a tab is a blank
tab_is_blank : line_kinds ((47 ∷ 47 ∷ 74 ∷ 9 ∷ 74 ∷ 79 ∷ 66 ∷ []) ∷ (9 ∷ 32 ∷ []) ∷ (47 ∷ 47 ∷ 9 ∷ []) ∷ (9 ∷ []) ∷ []) ≡ StartsDeck ∷ CardOfDeck ∷ EndsDeck ∷ IgnoredLine ∷ []
unfolding statements_open
tab_is_blank = refl

-- ---- operands

abbrev keyword : ℕ → List ℕ → List ℕ → Operand
keyword card key value = record { card = card; is_keyword = true; key = key; value = value }

abbrev positional : ℕ → List ℕ → Operand
positional card value = record { card = card; is_keyword = false; key = []; value = value }

abbrev operands : List (List ℕ) → List (List Operand)
operands lines = map (λ s. s.operands) (statements_of (cards_of_lines 1 lines))

-- a continued statement, with parentheses and apostrophes over commas, and a comment
continued : operands (codes "//N DD DSNAME=P.N,DISP=(NEW,PASS),UNIT='A,B',  A COMMENT" ∷ codes "//             VOLUME=SER=V2,DCB=(RECFM=FB," ∷ codes "// LRECL=80)" ∷ [])
    ≡ (keyword 1 (codes "DSN") (codes "P.N") ∷ keyword 1 (codes "DISP") (codes "(NEW,PASS)") ∷ keyword 1 (codes "UNIT") (codes "'A,B'")
    ∷ keyword 2 (codes "VOL") (codes "SER=V2") ∷ keyword 2 (codes "DCB") (codes "(RECFM=FB,LRECL=80)") ∷ []) ∷ []
unfolding statements_open
continued = refl

-- a part that is empty, doesn't close, or has text behind a closing parenthesis or apostrophe is no operand
untidy : operands (codes "//J JOB ,'J. SMITH',(A)B,C),'D'E,CLASS=A,(F" ∷ []) ≡ (positional 1 (codes "'J. SMITH'") ∷ keyword 1 (codes "CLASS") (codes "A") ∷ []) ∷ []
unfolding statements_open
untidy = refl

-- a field that hasn't come to its end has the operands before its last comma
unfinished : map (λ s. s.ended) (statements_of (cards_of_lines 1 (codes "//A DD DISP=SHR," ∷ codes "//              DSN=X" ∷ []))) ≡ false ∷ []
unfolding statements_open
unfinished = refl

unfinished_operands : operands (codes "//A DD DISP=SHR,DSN=A,DCB=(LRECL=80," ∷ codes "//              DSN=X" ∷ []) ≡ (keyword 1 (codes "DISP") (codes "SHR") ∷ keyword 1 (codes "DSN") (codes "A") ∷ []) ∷ []
unfolding statements_open
unfinished_operands = refl
