-- Two data sets of one name that have the same stamp: of one kind, record length and space, and the records of one begin those of the other.
use Rattle.std.proofs.Common.{◌≡◌, ◌≤◌, take, length, ap, sym, ◌∙◌}
use Rattle.std.proofs.Math.Seq.{take-take}
use Rattle.std.proofs.lemmas.Option.{same_Some}
use Rattle.ckr_library.specs.NameMaps.{Name, entry_at}
use Rattle.ckr_meaning.specs.LibrarySet.{LibrarySet}
use Rattle.ckr_points.specs.Office.{Office}
use Rattle.ckr_points.specs.Soundness.{IsPrefix}
use Rattle.ckr_points_invariant.specs.Invariant.{HasBegun, library_at_stamp}

-- a data set that may have got more records
pub record MatchesUpTo (one other : LibrarySet) : Type 0 where
  pub content : one.content ≡ other.content
  pub lrecl : one.lrecl ≡ other.lrecl
  pub space : one.space ≡ other.space
  pub begins : length one.records ≤ length other.records → IsPrefix one.records other.records

module _ (office : Office) (name : Name) (one other : LibrarySet) (first : HasBegun office name one) (second : HasBegun office name other) (stamp : one.stamp ≡ other.stamp) where
  last-same : first.last ≡ second.last
  last-same = same_Some first.last second.last (sym first.found ∙ ap (λ stamp. entry_at (library_at_stamp office stamp) name) stamp ∙ second.found)

  pub begun-match : MatchesUpTo one other
  begun-match = record {
    content = sym first.content ∙ ap (λ (set : LibrarySet). set.content) last-same ∙ second.content;
    lrecl = sym first.lrecl ∙ ap (λ (set : LibrarySet). set.lrecl) last-same ∙ second.lrecl;
    space = sym first.space ∙ ap (λ (set : LibrarySet). set.space) last-same ∙ second.space;
    begins = λ below.
        ap (take (length one.records)) (sym second.begins)
        ∙ take-take (length one.records) (length other.records) second.last.records below
        ∙ ap (λ (set : LibrarySet). take (length one.records) set.records) (sym last-same)
        ∙ first.begins;
  }

  -- where they have as many, they have the same
  pub begun-same : length one.records ≡ length other.records → one.records ≡ other.records
  begun-same long =
      sym first.begins
      ∙ ap (λ n. take n first.last.records) long
      ∙ ap (λ (set : LibrarySet). take (length other.records) set.records) last-same
      ∙ second.begins
