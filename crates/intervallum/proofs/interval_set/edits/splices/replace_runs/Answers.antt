use Rattle.std.proofs.Common.{◌∷◌, drop, arith}
use Rattle.ivl_places.proofs.Splicing.{set_before}
use Rattle.intervallum.proofs.interval_set.edits.splices.replace_runs.Goals as goal

pub returns-in_ok-put_one-in-Some-Some-clause-ok : goal.returns-in_ok-put_one-in-Some-Some-clause-ok
returns-in_ok-put_one-in-Some-Some-clause-ok g c =
    let L = c.args.runs.now.items in
    let i = c.args.start in
    rw (c.in_ok-put_one-in-Some-Some.ensures.ok, c.in-Some-Some.is-0, c.in-Some-Some.is-1)
    (set_before L (c.in-Some-Some.right ∷ drop c.args.end L) i c.in-Some-Some.left (let less = c.requires.two c.in-Some-Some.right c.in-Some-Some.is-1 in let most = c.requires.at_most in omega arith))
