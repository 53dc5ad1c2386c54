-- Ranges, read word by word.
use Rattle.std.proofs.Common.{◌≡◌, ◌≢◌, ◌++◌, ◌∙◌, ◌<◌, ◌-◌, ◌^◌, ℕ, zero, suc, ℤ, pos, negsuc, List, [], ◌∷◌, length, get_or, map, Bor, Option, None, Some, true, refl, sym, ap, subst, append_assoc, arith}
use Rattle.std.specs.Prelude.{IfSome}
use Rattle.std.specs.Option.{is_some}
use Rattle.std.proofs.lemmas.Bool.{false≢true}
use Rattle.ivl_laws.specs.Sets.{IsInRange}
use Rattle.ivl_lines.specs.Words.{words_between}
use Rattle.ivl_ranges.specs.Ranges.{AreRanges, IsRange}

AreRanges-push : (words : List (List ℕ)) (word : List ℕ) (ranges : List (ℤ × ℤ)) (p : ℤ × ℤ) → AreRanges words ranges → IsRange word p → AreRanges (words ++ word ∷ []) (ranges ++ p ∷ [])
AreRanges-push [] word [] p each range = (range, tt)
AreRanges-push [] word (q ∷ ranges) p each range = absurd each
AreRanges-push (first ∷ words) word [] p each range = absurd each
AreRanges-push (first ∷ words) word (q ∷ ranges) p each range = (each.0, AreRanges-push words word ranges p each.1 range)

-- the word after the first ones is a range too
AreRanges-at : (words : List (List ℕ)) (word : List ℕ) (more : List (List ℕ)) (ranges : List (ℤ × ℤ)) → AreRanges (words ++ word ∷ more) ranges → (p : ℤ × ℤ) × IsRange word p
AreRanges-at [] word more [] each = absurd each
AreRanges-at [] word more (p ∷ ranges) each = (p, each.0)
AreRanges-at (first ∷ words) word more [] each = absurd each
AreRanges-at (first ∷ words) word more (q ∷ ranges) each = AreRanges-at words word more ranges each.1

-- one of the words is no range
pub no_range_at : (words front left after : List (List ℕ)) (word : List ℕ) → words ≡ front ++ left → left ≡ word ∷ after → ((p : ℤ × ℤ) → ¬ (IsRange word p)) → (ranges : List (ℤ × ℤ)) → ¬ (AreRanges words ranges)
no_range_at words front left after word whole first none ranges each =
    let all : words ≡ front ++ word ∷ after = whole ∙ ap (λ (more : List (List ℕ)). front ++ more) first in
    let found = AreRanges-at front word after ranges (subst (λ (list : List (List ℕ)). AreRanges list ranges) all each) in
    none found.0 found.1

-- one more word is read
pub one_more : (words left after : List (List ℕ)) (word : List ℕ) (old new : List (ℤ × ℤ)) (p : ℤ × ℤ) (front : List (List ℕ)) → words ≡ front ++ left → AreRanges front old → left ≡ word ∷ after → IsRange word p → new ≡ old ++ p ∷ []
    → (read : List (List ℕ)) × (words ≡ read ++ after) × AreRanges read new
one_more words left after word old new p front whole each first range pushed = (
  front ++ word ∷ [],
  whole ∙ ap (λ (more : List (List ℕ)). front ++ more) first ∙ sym (append_assoc front (word ∷ []) after),
  subst (λ (list : List (ℤ × ℤ)). AreRanges (front ++ word ∷ []) list) (sym pushed) (AreRanges-push front word old p each range),
)

pub in_range_at : (words : List (List ℕ)) (ranges : List (ℤ × ℤ)) → AreRanges words ranges → (k : ℕ) (d : ℤ × ℤ) → k < length ranges → IsInRange (negsuc (2 ^ 63 - 2), pos (2 ^ 63 - 1)) (get_or ranges k d)
in_range_at [] [] each k d below = absurd (omega arith)
in_range_at [] (p ∷ ranges) each k d below = absurd each
in_range_at (word ∷ words) [] each k d below = absurd each
in_range_at (word ∷ words) (p ∷ ranges) each zero d below = each.0.in_range
in_range_at (word ∷ words) (p ∷ ranges) each (suc k) d below = in_range_at words ranges each.1 k d (omega arith)

pub same_pairs : (ranges : List (ℤ × ℤ)) → map (λ p. (p.0, p.1)) ranges ≡ ranges
same_pairs [] = refl
same_pairs (p ∷ ranges) = ap (λ (more : List (ℤ × ℤ)). p ∷ more) (same_pairs ranges)

-- there is a word
pub has_word : (text : List ℕ) (r : Option (Bor (List ℕ) × Bor (List ℕ))) → is_some r ≡ true → IfSome r (λ parts. words_between text ≡ parts.0.now ∷ words_between parts.1.now) → words_between text ≢ []
has_word text None some is = absurd (false≢true some)
has_word text (Some parts) some is = λ none. cc
