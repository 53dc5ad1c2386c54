-- Hashes that are linked one by one, and back.
use Rattle.std.proofs.Common.{◌≡◌, ◌≢◌, ◌∙◌, ◌+◌, ◌<◌, inl, inr, ℕ, ap, arith, get_or, length, List, [], ◌∷◌, ◌++◌, set, subst, sym, take}
use Rattle.std.proofs.Math.ListN.{get_or-append}
use Rattle.std.proofs.lemmas.Bool.{cases_eq}
use Rattle.std.proofs.lemmas.List.{get_or-take, length-set, length-take, length_push, get_or-set_other, get_or-set_same}
use Rattle.ivl_network.specs.Hashes.{AreInBuckets, IsLastIn, bucket_of}

-- the one that is linked last
newest : (hashes : List ℕ) (size bucket k : ℕ) → bucket_of size (get_or hashes k 0) ≡ bucket → IsLastIn hashes size bucket (k + 1) (k + 1)
newest hashes size bucket k at = record {
  low = omega arith;
  there = (λ j e. subst (λ i. bucket_of size (get_or hashes i 0) ≡ bucket) (let f : k ≡ j = omega (arith, e) in f) at);
  none = (λ j from to. absurd (omega (arith, from, to)));
}

-- one of another bucket plays no part
older : (hashes : List ℕ) (size bucket k place : ℕ) → IsLastIn hashes size bucket k place → bucket_of size (get_or hashes k 0) ≢ bucket → IsLastIn hashes size bucket (k + 1) place
older hashes size bucket k place h other = record {
  low = (let l = h.low in omega (arith, l));
  there = h.there;
  none = (λ j from to. elim (cases_eq j k) [
    | inl e ↦ (λ at. other (subst (λ i. bucket_of size (get_or hashes i 0) ≡ bucket) e at))
    | inr ne ↦ h.none j from (omega (arith, to, ne))
  ]);
}

earlier : (hashes : List ℕ) (size bucket k place : ℕ) → IsLastIn hashes size bucket (k + 1) place → bucket_of size (get_or hashes k 0) ≢ bucket → IsLastIn hashes size bucket k place
earlier hashes size bucket k place h other = record {
  low = elim (cases_eq place (k + 1)) [
    | inl e ↦ absurd (other (h.there k e))
    | inr ne ↦ (let l = h.low in omega (arith, l, ne))
  ];
  there = h.there;
  none = (λ j from to. h.none j from (omega (arith, to)));
}

-- nor do those after them
alike : (hashes hashes' : List ℕ) (size bucket before place : ℕ) → ((j : ℕ) → j < before → get_or hashes' j 0 ≡ get_or hashes j 0)
    → IsLastIn hashes size bucket before place → IsLastIn hashes' size bucket before place
alike hashes hashes' size bucket before place same h = record {
  low = h.low;
  there = (λ j e. ap (bucket_of size) (same j (let l = h.low in omega (arith, l, e))) ∙ h.there j e);
  none = (λ j from to at. h.none j from to (sym (ap (bucket_of size) (same j to)) ∙ at));
}

-- one more is linked
pub link_one : (k b : ℕ) (hashes links lasts : List ℕ) → AreInBuckets k hashes links lasts → k < length hashes → b ≡ bucket_of (length lasts) (get_or hashes k 0) → b < length lasts
    → AreInBuckets (k + 1) hashes (set links k (get_or lasts b 0)) (set lasts b (k + 1))
link_one k b hashes links lasts h known is lt =
    let n = length-set lasts b (k + 1) in
    record {
      as_many = length-set links k (get_or lasts b 0) ∙ h.as_many;
      within = omega (arith, known);
      some = (λ _. omega (arith, n, lt));
      lasts = (λ c below. subst (λ m. IsLastIn hashes m c (k + 1) (get_or (set lasts b (k + 1)) c 0)) (sym n) (elim (cases_eq c b) [
        | inl e ↦ subst (IsLastIn hashes (length lasts) c (k + 1)) (sym (ap (λ i. get_or (set lasts b (k + 1)) i 0) e ∙ get_or-set_same lasts b (k + 1) 0 lt))
            (newest hashes (length lasts) c k (sym is ∙ sym e))
        | inr ne ↦ subst (IsLastIn hashes (length lasts) c (k + 1)) (sym (get_or-set_other lasts b c (k + 1) 0 ne))
            (older hashes (length lasts) c k (get_or lasts c 0) (h.lasts c (omega (arith, below, n))) (λ at. ne (sym at ∙ sym is)))
      ]));
      links = (λ j below. subst (λ m. IsLastIn hashes m (bucket_of m (get_or hashes j 0)) j (get_or (set links k (get_or lasts b 0)) j 0)) (sym n) (elim (cases_eq j k) [
        | inl e ↦ subst (λ i. IsLastIn hashes (length lasts) (bucket_of (length lasts) (get_or hashes i 0)) i (get_or (set links k (get_or lasts b 0)) i 0)) (sym e)
            (subst (IsLastIn hashes (length lasts) (bucket_of (length lasts) (get_or hashes k 0)) k) (sym (get_or-set_same links k (get_or lasts b 0) 0 (let m = h.as_many in omega (arith, m, known))))
            (subst (λ c. IsLastIn hashes (length lasts) c k (get_or lasts b 0)) is (h.lasts b lt)))
        | inr ne ↦ subst (IsLastIn hashes (length lasts) (bucket_of (length lasts) (get_or hashes j 0)) j) (sym (get_or-set_other links k j (get_or lasts b 0) 0 ne))
            (h.links j (omega (arith, below, ne)))
      ]));
    }

-- one more stands at the end, not linked
pub pushed : (hash : ℕ) (hashes links lasts : List ℕ) → AreInBuckets (length hashes) hashes links lasts → AreInBuckets (length hashes) (hashes ++ hash ∷ []) (links ++ 0 ∷ []) lasts
pushed hash hashes links lasts h =
    let n = length_push hashes hash in let m = length_push links 0 in
    let same : (j : ℕ) → j < length hashes → get_or (hashes ++ hash ∷ []) j 0 ≡ get_or hashes j 0 = (λ j lt. get_or-append hashes (hash ∷ []) 0 j lt) in
    record {
      as_many = (let e = h.as_many in omega (arith, n, m, e));
      within = omega (arith, n);
      some = h.some;
      lasts = (λ c below. alike hashes (hashes ++ hash ∷ []) (length lasts) c (length hashes) (get_or lasts c 0) same (h.lasts c below));
      links = (λ j below.
          subst (λ p. IsLastIn (hashes ++ hash ∷ []) (length lasts) (bucket_of (length lasts) (get_or (hashes ++ hash ∷ []) j 0)) j p) (sym (get_or-append links (0 ∷ []) 0 j (let e = h.as_many in omega (arith, e, below))))
          (subst (λ x. IsLastIn (hashes ++ hash ∷ []) (length lasts) (bucket_of (length lasts) x) j (get_or links j 0)) (sym (same j below))
          (alike hashes (hashes ++ hash ∷ []) (length lasts) (bucket_of (length lasts) (get_or hashes j 0)) j (get_or links j 0) (λ i lt. same i (omega (arith, lt, below))) (h.links j below))));
    }

-- the last is dropped
pub popped : (k b : ℕ) (hashes links lasts : List ℕ) → AreInBuckets (k + 1) hashes links lasts → k + 1 ≡ length hashes → b ≡ bucket_of (length lasts) (get_or hashes k 0) → b < length lasts
    → AreInBuckets k (take k hashes) (take k links) (set lasts b (get_or links k 0))
popped k b hashes links lasts h count is lt =
    let last = get_or links k 0 in
    let n = length-set lasts b last in
    let same : (j : ℕ) → j < k → get_or (take k hashes) j 0 ≡ get_or hashes j 0 = (λ j lt. get_or-take k hashes j 0 lt) in
    record {
      as_many = (let e = h.as_many in let x = length-take k links in let y = length-take k hashes in omega (arith, e, x, y, count));
      within = (let y = length-take k hashes in omega (arith, y, count));
      some = (λ _. omega (arith, n, lt));
      lasts = (λ c below. subst (λ m. IsLastIn (take k hashes) m c k (get_or (set lasts b last) c 0)) (sym n)
          (alike hashes (take k hashes) (length lasts) c k (get_or (set lasts b last) c 0) same (elim (cases_eq c b) [
            | inl e ↦ subst (IsLastIn hashes (length lasts) c k) (sym (ap (λ i. get_or (set lasts b last) i 0) e ∙ get_or-set_same lasts b last 0 lt))
                (subst (λ i. IsLastIn hashes (length lasts) i k last) (sym is ∙ sym e) (h.links k (omega arith)))
            | inr ne ↦ subst (IsLastIn hashes (length lasts) c k) (sym (get_or-set_other lasts b c last 0 ne))
                (earlier hashes (length lasts) c k (get_or lasts c 0) (h.lasts c (omega (arith, below, n))) (λ at. ne (sym at ∙ sym is)))
          ])));
      links = (λ j below. subst (λ m. IsLastIn (take k hashes) m (bucket_of m (get_or (take k hashes) j 0)) j (get_or (take k links) j 0)) (sym n)
          (subst (λ x. IsLastIn (take k hashes) (length lasts) (bucket_of (length lasts) x) j (get_or (take k links) j 0)) (sym (same j below))
          (subst (IsLastIn (take k hashes) (length lasts) (bucket_of (length lasts) (get_or hashes j 0)) j) (sym (get_or-take k links j 0 below))
          (alike hashes (take k hashes) (length lasts) (bucket_of (length lasts) (get_or hashes j 0)) j (get_or links j 0) (λ i lt. same i (omega (arith, lt, below))) (h.links j (omega (arith, below)))))));
    }

-- where no bucket has any
pub none_linked : (size : ℕ) (hashes links lasts : List ℕ) → length links ≡ length hashes → ((b : ℕ) → get_or lasts b 0 ≡ 0) → AreInBuckets 0 hashes links lasts
none_linked size hashes links lasts as_many zeros = record {
  as_many = as_many;
  within = omega arith;
  some = (λ lt. absurd (omega (arith, lt)));
  lasts = (λ b below. subst (IsLastIn hashes (length lasts) b 0) (sym (zeros b)) (record {
    low = omega arith;
    there = (λ j e. absurd (omega (arith, e)));
    none = (λ j from to. absurd (omega (arith, to)));
  }));
  links = (λ j below. absurd (omega (arith, below)));
}
