-- Bytes that are cut into lines.
use Rattle.std.proofs.Common.{◌≡◌, ℕ, false, List, [], ◌∷◌, ◌++◌, refl, sym, ap, ◌∙◌, subst, append_assoc, eqb, Option, Some, length, take, ◌<◌}
use Rattle.std.specs.Prelude.{flat_map, IfSome}
use Rattle.std.specs.List.{AllByRecursion}
use Rattle.std.specs.Io.KnownBytes.{Appends, Consumes, Keeps, IsAtEnd}
use Rattle.std.proofs.KnownBytes.{Appends-nil, Appends-kept, Appends-trans, Consumes-trans, Consumes-whole}
use Rattle.std.proofs.lemmas.List.{append-nil}
use Rattle.std.proofs.lemmas.List.Concat.{flat_map-append}
use Rattle.std.proofs.lemmas.List.Elements.{All-nil, All-append}
use Rattle.std.proofs.lemmas.List.Splits.{slice_split_none, slice_split_at}
use Rattle.ivl_lines.specs.Lines.{lines_of, all_but_last, ended_lines_of, with_newline}
use Rattle.ivl_lines.specs.Answered.{IsAnswered}
use Rattle.ivl_lines.specs.Cut.{Cut, HasNoNewline, IsBegun, IsSplitAtNewline, Progress}
use Rattle.ivl_lines.proofs.Answered.{one_line, IsAnswered-append}

each-append : (ls ms : List (List ℕ)) → AllByRecursion HasNoNewline ls → AllByRecursion HasNoNewline ms → AllByRecursion HasNoNewline (ls ++ ms)
each-append [] ms h k = k
each-append (l ∷ ls) ms h k = (h.0, each-append ls ms h.1 k)

Cut-none : (line : List ℕ) → HasNoNewline line → Cut line [] line
Cut-none line h = record { whole = refl; each = tt; open_end = h }

Cut-append : (front piece rest last : List ℕ) (ls ms : List (List ℕ)) → Cut front ls rest → Cut (rest ++ piece) ms last → Cut (front ++ piece) (ls ++ ms) last
Cut-append front piece rest last ls ms h k = record {
  whole = rw (h.whole, append_assoc, k.whole, flat_map-append) (sym (append_assoc (flat_map with_newline ls) (flat_map with_newline ms) last));
  each = each-append ls ms h.each k.each;
  open_end = k.open_end;
}

newline_cut : (rest : List ℕ) → HasNoNewline rest → Cut (rest ++ 10 ∷ []) (rest ∷ []) []
newline_cut rest h = record {
  whole = sym (append-nil ((rest ++ 10 ∷ []) ++ []) ∙ append-nil (rest ++ 10 ∷ []));
  each = (h, tt);
  open_end = All-nil (λ x. eqb x 10 ≡ false);
}

regroup : (l more rest : List ℕ) → ((l ++ 10 ∷ []) ++ more) ++ rest ≡ l ++ 10 ∷ (more ++ rest)
regroup l more rest = ap (λ (xs : List ℕ). xs ++ rest) (append_assoc l (10 ∷ []) more) ∙ append_assoc l (10 ∷ more) rest

cut_lines : (ls : List (List ℕ)) (rest : List ℕ) → AllByRecursion HasNoNewline ls → HasNoNewline rest → lines_of (flat_map with_newline ls ++ rest) ≡ ls ++ rest ∷ []
cut_lines [] rest each open_end = slice_split_none (λ b. eqb b 10) rest open_end
cut_lines (l ∷ ls) rest each open_end =
    ap (λ (xs : List ℕ). lines_of xs) (regroup l (flat_map with_newline ls) rest)
    ∙ slice_split_at (λ b. eqb b 10) l 10 (flat_map with_newline ls ++ rest) each.0 refl
    ∙ ap (λ (more : List (List ℕ)). l ∷ more) (cut_lines ls rest each.1 open_end)

-- the pieces between newlines are the ended lines and the rest
pub lines_of-Cut : (bytes rest : List ℕ) (ls : List (List ℕ)) → Cut bytes ls rest → lines_of bytes ≡ ls ++ rest ∷ []
lines_of-Cut bytes rest ls h = ap (λ (xs : List ℕ). lines_of xs) h.whole ∙ cut_lines ls rest h.each h.open_end

all_but_last-push : (ls : List (List ℕ)) (rest : List ℕ) → all_but_last (ls ++ rest ∷ []) ≡ ls
all_but_last-push [] rest = refl
all_but_last-push (l ∷ []) rest = refl
all_but_last-push (l ∷ m ∷ ls) rest = ap (λ (more : List (List ℕ)). l ∷ more) (all_but_last-push (m ∷ ls) rest)

pub ended_lines_of-Cut : (bytes rest : List ℕ) (ls : List (List ℕ)) → Cut bytes ls rest → ended_lines_of bytes ≡ ls
ended_lines_of-Cut bytes rest ls h = ap (λ (all : List (List ℕ)). all_but_last all) (lines_of-Cut bytes rest ls h) ∙ all_but_last-push ls rest

-- what is allowed from a state for a line, with a text and the state that is left
abbrev pub Allowed : Type 0 → Type 1
Allowed S = S → List ℕ → List ℕ → S → Type 0

pub Progress-none : {S : Type 0} (allowed : Allowed S) (line : List ℕ) (a : S) (x : Option (List ℕ)) → HasNoNewline line → Progress allowed line line a a (Appends x x)
Progress-none allowed line a x h = record { lines = []; text = []; cut = Cut-none line h; answers = (refl, refl); written = Appends-nil x }

pub Progress-append : {S : Type 0} (allowed : Allowed S) (front piece rest last : List ℕ) (a b c : S) (x y z : Option (List ℕ)) → Progress allowed front rest a b (Appends x y) → Progress allowed (rest ++ piece) last b c (Appends y z) → Progress allowed (front ++ piece) last a c (Appends x z)
Progress-append allowed front piece rest last a b c x y z h k = record {
  lines = h.lines ++ k.lines;
  text = h.text ++ k.text;
  cut = Cut-append front piece rest last h.lines k.lines h.cut k.cut;
  answers = IsAnswered-append allowed a b c h.lines k.lines h.text k.text h.answers k.answers;
  written = Appends-trans x y z h.text k.text h.written k.written;
}

-- a flush adds no byte
pub Progress-flushed : {S : Type 0} (allowed : Allowed S) (front rest : List ℕ) (a b : S) (x y z : Option (List ℕ)) → Progress allowed front rest a b (Appends x y) → Keeps y z → Progress allowed front rest a b (Appends x z)
Progress-flushed allowed front rest a b x y z h kept = record {
  lines = h.lines;
  text = h.text;
  cut = h.cut;
  answers = h.answers;
  written = Appends-kept x y z h.text h.written kept;
}

-- bytes without a newline are kept
pub Progress-kept : {S : Type 0} (allowed : Allowed S) (front rest bytes : List ℕ) (a b : S) (x y : Option (List ℕ)) → Progress allowed front rest a b (Appends x y) → HasNoNewline bytes → Progress allowed (front ++ bytes) (rest ++ bytes) a b (Appends x y)
Progress-kept allowed front rest bytes a b x y h none =
    Progress-append allowed front bytes rest (rest ++ bytes) a b b x y y h
    (Progress-none allowed (rest ++ bytes) b y (All-append (λ i. eqb i 10 ≡ false) rest bytes h.cut.open_end none))

-- a line is answered, which what was kept begins, and a newline ends
pub Progress-newline : {S : Type 0} (allowed : Allowed S) (front rest bytes text : List ℕ) (a b c : S) (x y z : Option (List ℕ)) → Progress allowed front rest a b (Appends x y) → HasNoNewline bytes → allowed b (rest ++ bytes) text c → Appends y z text → Progress allowed (front ++ (bytes ++ 10 ∷ [])) [] a c (Appends x z)
Progress-newline allowed front rest bytes text a b c x y z h none answered written =
    let open_end : HasNoNewline (rest ++ bytes) = All-append (λ i. eqb i 10 ≡ false) rest bytes h.cut.open_end none in
    let cut : Cut (rest ++ (bytes ++ 10 ∷ [])) ((rest ++ bytes) ∷ []) [] = rw append_assoc at (newline_cut (rest ++ bytes) open_end) in
    Progress-append allowed front (bytes ++ 10 ∷ []) rest [] a b c x y z h
    (record { lines = (rest ++ bytes) ∷ []; text = text; cut = cut; answers = one_line allowed b c (rest ++ bytes) text answered; written = written })

-- a piece, once its next line is answered
pub split_whole : (piece front rest bytes after : List ℕ) → piece ≡ front ++ rest → IsSplitAtNewline rest bytes after → piece ≡ (front ++ (bytes ++ 10 ∷ [])) ++ after
split_whole piece front rest bytes after whole split =
    whole ∙ ap (λ (xs : List ℕ). front ++ xs) (split.whole ∙ sym (append_assoc bytes (10 ∷ []) after)) ∙ sym (append_assoc front (bytes ++ 10 ∷ []) after)

-- the next line of a piece is answered, and nothing has begun of the one after it
pub Progress-split : {S : Type 0} (allowed : Allowed S) (line front rest bytes after kept : List ℕ) (begun : Option (List ℕ)) (a b c : S) (x y z : Option (List ℕ)) → Progress allowed (line ++ front) kept a b (Appends x y) → IsSplitAtNewline rest bytes after → ((text : List ℕ) × allowed b (kept ++ bytes) text c × Appends y z text) → begun ≡ Some [] → (last : List ℕ) × IsBegun last begun × Progress allowed (line ++ (front ++ (bytes ++ 10 ∷ []))) last a c (Appends x z)
Progress-split allowed line front rest bytes after kept begun a b c x y z h split answered emptied =
    let more : Progress allowed ((line ++ front) ++ (bytes ++ 10 ∷ [])) [] a c (Appends x z) =
    Progress-newline allowed (line ++ front) kept bytes answered.0 a b c x y z h split.first answered.1 answered.2 in
    ([], rw emptied refl, subst (λ (xs : List ℕ). Progress allowed xs [] a c (Appends x z)) (append_assoc line front (bytes ++ 10 ∷ [])) more)

-- what is left of a piece begins a line
pub Progress-last : {S : Type 0} (allowed : Allowed S) (line piece front rest kept : List ℕ) (begun : Option (List ℕ)) (a b : S) (x y : Option (List ℕ)) → piece ≡ front ++ rest → Progress allowed (line ++ front) kept a b (Appends x y) → HasNoNewline rest → IsBegun (kept ++ rest) begun → (last : List ℕ) × IsBegun last begun × Progress allowed (line ++ piece) last a b (Appends x y)
Progress-last allowed line piece front rest kept begun a b x y whole h none begins =
    (kept ++ rest, begins, rw (whole, ← append_assoc line front rest) (Progress-kept allowed (line ++ front) kept rest a b x y h none))

-- the whole text, once the rest is answered as the last line
whole_text : {S : Type 0} (allowed : Allowed S) (front rest more : List ℕ) (a b c : S) (x y z : Option (List ℕ)) → Progress allowed front rest a b (Appends x y) → allowed b rest more c → Appends y z more → (text : List ℕ) × IsAnswered allowed a (lines_of front) text c × Appends x z text
whole_text {S} allowed front rest more a b c x y z h answered written =
    let whole : IsAnswered allowed a (h.lines ++ rest ∷ []) (h.text ++ more) c =
    IsAnswered-append allowed a b c h.lines (rest ∷ []) h.text more h.answers (one_line allowed b c rest more answered) in
    let P : List (List ℕ) → Type 0 = λ lines. IsAnswered allowed a lines (h.text ++ more) c in (
      h.text ++ more,
      subst P (sym (lines_of-Cut front rest h.lines h.cut)) whole,
      Appends-trans x y z h.text more h.written written,
    )

-- the same, where a last read gave no byte
pub finished : {S : Type 0} (allowed : Allowed S) (r s t : Option (List ℕ)) (front buf rest more : List ℕ) (n : ℕ) (a b c : S) (x y z : Option (List ℕ)) → n ≡ 0 → 0 < length buf → Consumes r s front → Consumes s t (take n buf) × (n ≡ 0 → 0 < length buf → IsAtEnd t) → Progress allowed front rest a b (Appends x y) → (answered : allowed b rest more c × Appends y z more) → IfSome r (λ bytes. (text : List ℕ) × IsAnswered allowed a (lines_of bytes) text c × Appends x z text)
finished allowed r s t front buf rest more n a b c x y z none room before read h answered =
    let nothing : take n buf ≡ [] = rw none refl in
    let Q : List ℕ → Type 0 = λ bs. Consumes s t bs in
    let R : List ℕ → Type 0 = λ bs. Consumes r t bs in
    let all : Consumes r t front = subst R (append-nil front) (Consumes-trans r s t front [] before (subst Q nothing read.0)) in
    let P : List ℕ → Type 0 = λ bytes. (text : List ℕ) × IsAnswered allowed a (lines_of bytes) text c × Appends x z text in
    Consumes-whole r t front P all (read.1 none room) (whole_text allowed front rest more a b c x y z h answered.0 answered.1)

-- the text so far is that of the ended lines
pub ended_text : {S : Type 0} (allowed : Allowed S) (front rest : List ℕ) (a b : S) (grows : List ℕ → Type 0) → (h : Progress allowed front rest a b grows) → IsAnswered allowed a (ended_lines_of front) h.text b
ended_text allowed front rest a b grows h =
    let P : List (List ℕ) → Type 0 = λ lines. IsAnswered allowed a lines h.text b in
    subst P (sym (ended_lines_of-Cut front rest h.lines h.cut)) h.answers
