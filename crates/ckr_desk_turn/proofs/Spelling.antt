-- The events of turns have a spelling, which is short.
use Rattle.std.proofs.Common.{◌≡◌, ◌≤◌, ◌<◌, ◌+◌, ◌*◌, ◌^◌, ◌&&◌, ℕ, true, refl, IsTrue, nat_le, List, [], ◌∷◌, ◌++◌, length, arith, length-append}
use Rattle.std.proofs.lemmas.Bool.Decides.{nat_tests}
use Rattle.arrayvec.specs.ArrayVec.{ArrayVec}
use Rattle.std.specs.List.{list_all}
use Rattle.ckr_base.specs.Grammar.{is_check_id, is_name_byte}
use Rattle.ckr_base.specs.declared.code.Code.{Code}
use Rattle.ckr_base.specs.declared.code.Code.TheVariants.{System, User}
use Rattle.ckr_events.specs.declared.event.Event.TheVariants.{Checkpointed as CheckpointedEvent, Started as StartedEvent, Rewritten as RewrittenEvent, StepEnded as StepEndedEvent, Held as HeldEvent, Ended as EndedEvent}
use Rattle.ckr_events.specs.declared.event.Ending.TheVariants.{Coded}
use Rattle.ckr_base.proofs.Bools.{and-first, and-second}
use Rattle.ckr_base.proofs.Numbers.{nat_le-true}
use Rattle.ckr_fields.specs.Fields.{each_fits, spell_each}
use Rattle.std.specs.Int.{w16, w32, to_be_bytes}
use Rattle.ckr_events.specs.Format.{length_list, piece_list, made, all_made}
use Rattle.ckr_events.specs.declared.event.Made.{Made}
use Rattle.ckr_events.specs.declared.event.Piece.{Piece}
use Rattle.ckr_desk_turn.specs.Spelling.{IsSpelled, IsCode}

pub lengths_long : (lengths : List ℕ) → length (length_list.spell lengths) ≡ 1 + 4 * length lengths
lengths_long [] = refl
lengths_long (first ∷ rest) = omega (arith, lengths_long rest)

few : (lengths : List ℕ) → length_list.fits lengths → length lengths ≤ 16
few lengths fits = grind (arith, nat_tests, fits.0.1)

pub step_ended_spelled : (job step rc writes : ℕ) (lengths : ArrayVec ℕ) → job < 2 ^ 32 → 1 ≤ step → step < 256 → rc < 2 ^ 16 → writes < 2 ^ 32
    → length_list.fits lengths.items → IsSpelled (StepEndedEvent job step rc writes lengths)
step_ended_spelled job step rc writes lengths j above below r w fits = record {
  event = (j, ((below, grind (arith, nat_tests, above, below)), (r, (w, fits))));
  counted = tt;
  small = tt;
  short = omega (arith, lengths_long lengths.items, few lengths.items fits);
}

pub coded_spelled : (job writes : ℕ) (code : Code) (rule : ℕ) (lengths : ArrayVec ℕ) → job < 2 ^ 32 → 1 ≤ rule → rule ≤ 6 → IsCode code → writes < 2 ^ 32
    → length_list.fits lengths.items → IsSpelled (EndedEvent job (Coded code rule writes lengths))
coded_spelled job writes (System number) rule lengths j above below is w fits = record {
  event = (j, (is, ((omega (arith, below), grind (arith, nat_tests, above, below)), (w, fits))));
  counted = tt;
  small = tt;
  short = omega (arith, lengths_long lengths.items, few lengths.items fits);
}
coded_spelled job writes (User number) rule lengths j above below is w fits = record {
  event = (j, (is, ((omega (arith, below), grind (arith, nat_tests, above, below)), (w, fits))));
  counted = tt;
  small = tt;
  short = omega (arith, lengths_long lengths.items, few lengths.items fits);
}

pub held_spelled : (job writes : ℕ) (code : Code) (lengths : ArrayVec ℕ) → job < 2 ^ 32 → IsCode code → writes < 2 ^ 32 → length_list.fits lengths.items
    → IsSpelled (HeldEvent job code writes lengths)
held_spelled job writes (System number) lengths j is w fits = record {
  event = (j, (is, (w, fits)));
  counted = tt;
  small = tt;
  short = omega (arith, lengths_long lengths.items, few lengths.items fits);
}
held_spelled job writes (User number) lengths j is w fits = record {
  event = (j, (is, (w, fits)));
  counted = tt;
  small = tt;
  short = omega (arith, lengths_long lengths.items, few lengths.items fits);
}

pieces_long : (pieces : List Piece) → length (piece_list.spell pieces) ≡ 1 + 8 * length pieces
pieces_long [] = refl
pieces_long (first ∷ rest) = omega (arith, pieces_long rest)

made_long : (one : Made) → made.fits one → length (made.spell one) ≤ 43
made_long one fits = omega (arith, pieces_long one.pieces.items, five)
  where
    five : length one.pieces.items ≤ 5
    five = grind (arith, nat_tests, fits.1.1.0.1)

all_long : (items : List Made) → each_fits made.fits items → length (spell_each made.spell items) ≤ 43 * length items
all_long [] fits = omega arith
all_long (first ∷ rest) fits =
    omega (arith, length-append (made.spell first) (spell_each made.spell rest), made_long first fits.0, all_long rest fits.1)

pub started_spelled : (job step : ℕ) (items : ArrayVec Made) → job < 2 ^ 32 → 1 ≤ step → step < 256 → all_made.fits items.items → IsSpelled (StartedEvent job step items)
started_spelled job step items j above below fits = record {
  event = (j, ((below, grind (arith, nat_tests, above, below)), fits));
  counted = tt;
  small = tt;
  short = omega (arith, all_long items.items fits.1, many);
}
  where
    many : length items.items ≤ 80
    many = grind (arith, nat_tests, fits.0.1)

pub rewritten_spelled : (job taken writes place : ℕ) (lengths : ArrayVec ℕ) (image : List ℕ) → job < 2 ^ 32 → taken < 2 ^ 32 → writes < 2 ^ 32 → place < 2 ^ 32
    → length_list.fits lengths.items → length image ≤ 256 → IsSpelled (RewrittenEvent job taken writes lengths place image)
rewritten_spelled job taken writes place lengths image j t w p fits short = record {
  event = (j, (t, (w, (fits, (p, ((omega (arith, short), grind (arith, nat_tests, short)), refl))))));
  counted = tt;
  small = tt;
  short = omega (
    arith,
    lengths_long lengths.items,
    few lengths.items fits,
    short,
    length-append (length_list.spell lengths.items) (to_be_bytes w32 place ++ (to_be_bytes w16 (length image) ++ image)),
  );
}

pub checkpointed_spelled : (job taken writes place bytes : ℕ) (id : List ℕ) (lengths : ArrayVec ℕ) → job < 2 ^ 32 → taken < 2 ^ 32 → writes < 2 ^ 32 → place < 2 ^ 32 → bytes < 2 ^ 32
    → IsTrue (is_check_id id) → length_list.fits lengths.items → IsSpelled (CheckpointedEvent job id taken writes lengths place bytes)
checkpointed_spelled job taken writes place bytes id lengths j t w p b grammar fits = record {
  event = (j, (((omega (arith, few_bytes), sized), grammar), (t, (w, (fits, (p, b))))));
  counted = tt;
  small = tt;
  short = omega (
    arith,
    lengths_long lengths.items,
    few lengths.items fits,
    few_bytes,
    length-append id (to_be_bytes w32 taken ++ (to_be_bytes w32 writes ++ (length_list.spell lengths.items ++ (to_be_bytes w32 place ++ to_be_bytes w32 bytes)))),
    length-append (length_list.spell lengths.items) (to_be_bytes w32 place ++ to_be_bytes w32 bytes),
  );
}
  where
    sized : (nat_le 1 (length id) && nat_le (length id) 16) ≡ true
    sized = and-first (nat_le 1 (length id) && nat_le (length id) 16) (list_all is_name_byte id) grammar

    few_bytes : length id ≤ 16
    few_bytes = nat_le-true (length id) 16 (and-second (nat_le 1 (length id)) (nat_le (length id) 16) sized)
