use Rattle.std.proofs.Common.{◌∙◌, arith, length, subst, sym}
use Rattle.std.proofs.lemmas.Bool.{false≢true}
use Rattle.ivl_network.specs.Hashes.{IsLastIn, bucket_of}
use Rattle.ivl_network.proofs.Finding.{none_from_last, none_from_next}
use Rattle.ivl_network.proofs.network.index.Index.has.Goals as goal

pub loop-place-init : goal.loop-place-init
loop-place-init c =
    let h = c.args.self.now.hashes in let size = length h.lasts.items in
    none_from_last c.args.rules.now h.hashes.items size c.args.rule.now c.last-place.result c.requires.hashes
    (subst (λ hash. IsLastIn h.hashes.items size (bucket_of size hash) (length h.hashes.items) c.last-place.result) c.hash_of.ensures c.last-place.ensures)

pub loop-place-preserved : goal.loop-place-preserved
loop-place-preserved c =
    let h = c.args.self.now.hashes in let t = c.loop-place-test.true in
    none_from_next c.args.rules.now h.hashes.items h.links.items h.lasts.items c.args.rule.now _ c.loop-place.place c.before-place.result c.requires.hashes c.requires.lists
    c.loop-place.invariant (omega (arith, t)) c.before-place.ensures (λ e. false≢true (sym c.if-is_same.false ∙ c.is_same.ensures.1 e))
