-- What is written for some records, and for more behind them.
use Rattle.std.proofs.Common.{◌≡◌, ℕ, ◌+◌, Bool, true, false, List, [], ◌∷◌, ◌++◌, map, filter, length, min, take, refl, ap, ◌∙◌, arith, append_assoc, append-nil}
use Rattle.std.specs.List.{enumerate_from, flat_map}
use Rattle.std.proofs.lemmas.List.{map-append, take_min}
use Rattle.std.proofs.lemmas.List.Concat.{flat_map-append}
use Rattle.std.proofs.lemmas.List.Elements.{filter-append}
use Rattle.std.proofs.lemmas.List.Sums.{sum_by-append}
use Rattle.ckr_base.specs.declared.programs.Write.{Write}
use Rattle.ckr_jcl.specs.declared.deck.Kind.{Kind}
use Rattle.ckr_jcl.specs.declared.deck.Kind.TheVariants.{Copy, Select, Merge, Master, Update, Print, Br14}
use Rattle.ckr_jcl.specs.declared.deck.Parm.{Parm}
use Rattle.ckr_programs.specs.Records.{is_selected, amount_of}
use Rattle.ckr_programs.specs.Pages.{lines_of, pages_from}
use Rattle.ckr_programs.specs.Work.{to_main, images_for, sum_of, closing_images, prog_writes}
use Rattle.ckr_programs.specs.Units.{images_at}

pub take_shorter : (n : ℕ) (xs : List ℕ) → take (min (length xs) n) xs ≡ take n xs
take_shorter n xs = ap (λ k. take k xs) (let e : min (length xs) n ≡ min n (length xs) = omega arith in e) ∙ take_min n xs

enumerate_from-append : {X : Type 0} (n m : ℕ) (xs ys : List X) → n + length xs ≡ m → enumerate_from n (xs ++ ys) ≡ enumerate_from n xs ++ enumerate_from m ys
enumerate_from-append n m [] ys e = ap (λ k. enumerate_from k ys) (let f : n ≡ m = omega arith in f)
enumerate_from-append n m (x ∷ xs) ys e = ap (λ zs. (n, x) ∷ zs) (enumerate_from-append (n + 1) m xs ys (omega arith))

pages-append : (parm : Parm) (taken more : List (List ℕ)) → pages_from parm 0 (taken ++ more) ≡ pages_from parm 0 taken ++ pages_from parm (length taken) more
pages-append parm taken more =
    ap (flat_map (lines_of parm)) (enumerate_from-append 0 (length taken) taken more (omega arith))
    ∙ flat_map-append (lines_of parm) (enumerate_from 0 taken) (enumerate_from (length taken) more)

-- the images for records from a place on
abbrev pub images_from : Kind → Parm → ℕ → List (List ℕ) → List (List ℕ)
images_from Copy parm place more = more
images_from Select parm place more = filter (is_selected parm) more
images_from Print parm place more = pages_from parm place more
images_from _ parm place more = []

images-append : (program : Kind) (parm : Parm) (taken more : List (List ℕ)) → images_for program parm (taken ++ more) ≡ images_for program parm taken ++ images_from program parm (length taken) more
images-append Copy parm taken more = refl
images-append Select parm taken more = filter-append (is_selected parm) taken more
images-append Merge parm taken more = refl
images-append Master parm taken more = refl
images-append Update parm taken more = refl
images-append Print parm taken more = pages-append parm taken more
images-append Br14 parm taken more = refl

pub images_from-single : (program : Kind) (parm : Parm) (place : ℕ) (bytes : List ℕ) → images_from program parm place (bytes ∷ []) ≡ images_at program parm place bytes
images_from-single Print parm place bytes = append-nil (lines_of parm (place, bytes))
images_from-single _ parm place bytes = refl

-- the writes behind those for the records taken
abbrev pub more_writes : Kind → Parm → ℕ → ℕ → List (List ℕ) → Bool → List Write
more_writes program parm place sum more false = map to_main (images_from program parm place more)
more_writes program parm place sum more true =
    map to_main (images_from program parm place more) ++ map to_main (closing_images program parm (sum + sum_of program parm more))

pub writes-append : (program : Kind) (parm : Parm) (taken more : List (List ℕ)) (closed : Bool) → prog_writes program parm (taken ++ more) closed ≡ prog_writes program parm taken false ++ more_writes program parm (length taken) (sum_of program parm taken) more closed
unfolding prog_writes
writes-append program parm taken more false =
    ap (map to_main) (images-append program parm taken more)
    ∙ map-append to_main (images_for program parm taken) (images_from program parm (length taken) more)
writes-append program parm taken more true =
    let sums = sum_by-append (amount_of program parm) taken more in
    ap (λ sum. map to_main (images_for program parm (taken ++ more)) ++ map to_main (closing_images program parm sum)) sums
    ∙ ap (λ front. front ++ map to_main (closing_images program parm (sum_of program parm taken + sum_of program parm more)))
    (ap (map to_main) (images-append program parm taken more)
    ∙ map-append to_main (images_for program parm taken) (images_from program parm (length taken) more))
    ∙ append_assoc (map to_main (images_for program parm taken)) (map to_main (images_from program parm (length taken) more)) (map to_main (closing_images program parm (sum_of program parm taken + sum_of program parm more)))

-- nothing is left
pub more_writes-none : (program : Kind) (parm : Parm) (place sum : ℕ) → more_writes program parm place sum [] true ≡ map to_main (closing_images program parm sum)
more_writes-none program parm place sum = by program ∙ ap (λ n. map to_main (closing_images program parm n)) (let e : sum + 0 ≡ sum = omega arith in e)
  where
    by : (kind : Kind) → map to_main (images_from kind parm place []) ++ map to_main (closing_images program parm (sum + 0)) ≡ map to_main (closing_images program parm (sum + 0))
    by Copy = refl
    by _ = refl

pub no_more_writes : (program : Kind) (parm : Parm) (place sum : ℕ) → more_writes program parm place sum [] false ≡ []
no_more_writes Copy parm place sum = refl
no_more_writes _ parm place sum = refl
