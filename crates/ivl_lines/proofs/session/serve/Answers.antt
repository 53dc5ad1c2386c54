use Rattle.std.proofs.Common.{◌≡◌, ℕ, List, [], ◌++◌, take, length, ◌<◌, Option, Some, eqb, false, refl, arith}
use Rattle.std.proofs.lemmas.Result.{on_ok_weaker}
use Rattle.std.proofs.KnownBytes.{Consumes-kept, Consumes-nil, Consumes-trans}
use Rattle.std.proofs.lemmas.List.Elements.{All-nil}
use Rattle.std.specs.Io.KnownBytes.{Appends, Consumes}
use Rattle.ivl_lines.specs.Answered.{AnswersOrLoses}
use Rattle.ivl_lines.specs.Cut.{IsBegun, Progress}
use Rattle.ivl_lines.proofs.Cuts.{Allowed, Progress-append, Progress-none, Progress-flushed, finished, ended_text}
use Rattle.ivl_lines.proofs.session.serve.Goals as goal
use Rattle.ivl_lines.proofs.session.serve.Goals.{in-Ok+in_ok-answer_piece-in-Ok, in-Err+else-ne}

pub returns-in-Ok-eq0-clause-ok : goal.returns-in-Ok-eq0-clause-ok
returns-in-Ok-eq0-clause-ok g c =
    let room : 0 < length c.read.new.buf = omega arith in
    let none : c.in-Ok-eq0.field-0 ≡ 0 = omega arith in
    let before = c.reads.invariant.1 in
    let so_far = Progress-flushed _ _ _ _ _ _ _ _ before.4 c.flush.ensures.kept in
    on_ok_weaker c.finish.result
    (λ answers.
    let answered = answers before.1 before.3 in
    finished (AnswersOrLoses g.A.Answers.lost g.A.Answers.allowed) _ _ _ before.0 c.read.new.buf before.1 answered.0 c.in-Ok-eq0.field-0 _ c.reads.answers c.finish.new.answers _ _ _
    none room before.2 c.in-Ok-eq0.ensures.bytes so_far (answered.1, answered.2))
    c.finish.ensures.ok

pub returns-then-ne-clause-read : goal.returns-then-ne-clause-read
returns-then-ne-clause-read g c =
    let before = c.reads.invariant.1 in
    let so_far = Progress-flushed _ _ _ _ _ _ _ _ before.4 c.flush.ensures.kept in
    λ _. (
      before.0,
      so_far.text,
      Consumes-kept _ _ _ before.0 before.2 c.in-Err.ensures.bytes,
      ended_text _ _ _ _ _ _ so_far,
      so_far.written,
    )

pub reads-preserved : goal.reads-preserved
reads-preserved g c =
    let before = c.reads.invariant.1 in
    let front : List ℕ = before.0 in
    let room : length c.read.new.buf ≡ 65536 = omega arith in
    let so_far = Progress-flushed _ _ _ _ _ _ _ _ before.4 c.flush.ensures.kept in
    elim c.match-read.branch [
      | in-Ok+in_ok-answer_piece-in-Ok w ↦
          let piece : List ℕ = take w.in-Ok.count c.read.new.buf in
          let more = w.in_ok-answer_piece-in-Ok.ensures.ok before.1 before.3 so_far.cut.open_end in
          rw (w.writer-is, w.answers-is, w.line-is) (
            room,
            (
              front ++ piece,
              more.0,
              Consumes-trans _ _ _ front piece before.2 w.in-Ok.ensures.bytes.0,
              more.1,
              Progress-append _ front piece _ _ _ _ _ _ _ _ so_far more.2,
            ),
          )
      | in-Err+else-ne w ↦
          rw (w.writer-is, w.answers-is, w.line-is) (
            room,
            (
              front,
              before.1,
              Consumes-kept _ _ _ front before.2 w.in-Err.ensures.bytes,
              before.3,
              so_far,
            ),
          )
    ]

pub returns-clause-read : goal.returns-clause-read
returns-clause-read g c =
    let before = c.reads.invariant.1 in
    λ _. (
      before.0,
      before.4.text,
      before.2,
      ended_text _ _ _ _ _ _ before.4,
      before.4.written,
    )

-- nothing is read yet, and nothing is written
begins : {S : Type 0} (allowed : Allowed S) (r x : Option (List ℕ)) (line : Option (List ℕ)) (state : S) → line ≡ Some [] →
    (front rest : List ℕ) × Consumes r r front × IsBegun rest line × Progress allowed front rest state state (Appends x x)
begins allowed r x line state e =
    ([], [], Consumes-nil r, rw e refl, Progress-none allowed [] state x (All-nil (λ b. eqb b 10 ≡ false)))

pub reads-init : goal.reads-init
reads-init g c = (refl, begins _ _ _ _ _ c.in_ok-line.ensures)
