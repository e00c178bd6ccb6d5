use Rattle.ckr_desk_refines.proofs.Entries.Images.{keeping-kept, moved-kept, outside-kept, written-kept}
use Rattle.ckr_desk_refines.proofs.Entries.There.{has-then}
use Rattle.ckr_desk_refines.proofs.entry_laws.entries_stay_in_images.Goals as goal

pub returns : goal.returns
returns c = record {
  entries = has-then;
  moved = λ layout sets old new laid same. moved-kept layout sets laid old new same;
  kept = λ layout sets names library old new laid has keeps. keeping-kept layout sets laid old new names library has keeps;
  behind = λ layout sets name table set place count old new laid at places behind fits same. outside-kept layout sets laid old new name table set place count at places behind fits same;
  rewritten = λ layout sets name table set old new laid at none places others. written-kept layout sets laid old new name table at set places others (λ some. absurd (some none));
}
