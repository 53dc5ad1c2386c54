use Rattle.std.proofs.Common.{◌≡◌, ◌∙◌, [], subst, get_or}
use Rattle.ivl_store.specs.NarrowedSets.{IsLeftOf}
use Rattle.ivl_within.proofs.Lists.{entry_seen}
use Rattle.ivl_store.proofs.Places.{cut_after}
use Rattle.ivl_network.proofs.Losses.{none_made}
use Rattle.ivl_network.proofs.network.narrowing.restrict_logged.Goals as goal

pub returns-clause-cut : goal.returns-clause-cut
returns-clause-cut g c =
    let old = c.args.store.now in
    let read : c.index-domains-i.result ≡ get_or old c.args.i [] = entry_seen _ _ _ _ c.domains.ensures.same c.requires.known c.index-domains-i.is in
    rw c.replace_logged.ensures.put (cut_after g.B.Width.whole old c.args.i (g.A.Allowed.members c.args.allowed.now) c.in_ok-left.left c.requires.known
    (subst (λ L. IsLeftOf g.B.Width.whole L (g.A.Allowed.members c.args.allowed.now) c.in_ok-left.left) read c.in_ok-left.ensures))

pub returns-clause-kept : goal.returns-clause-kept
returns-clause-kept g c = λ within.
    let old = c.args.store.now in
    let read : c.index-domains-i.result ≡ get_or old c.args.i [] = entry_seen _ _ _ _ c.domains.ensures.same c.requires.known c.index-domains-i.is in
    c.is_some-lost.ensures ∙ none_made g.B.Width.whole (get_or old c.args.i []) (g.A.Allowed.members c.args.allowed.now) c.in_ok-left.left
    (subst (λ L. IsLeftOf g.B.Width.whole L (g.A.Allowed.members c.args.allowed.now) c.in_ok-left.left) read c.in_ok-left.ensures) within
