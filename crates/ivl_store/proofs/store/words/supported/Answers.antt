use Rattle.std.proofs.Common.{arith, subst}
use Rattle.ivl_store.proofs.Words.{Found, found_all, found_next, found_none, lowest}
use Rattle.ivl_store.proofs.store.words.supported.Goals as goal

pub places-init : goal.places-init
places-init c = record { found = found_none c.args.x c.args.y c.args.z; fits = c.ranges.x.fits }

pub with_supported-kept-requires : goal.with_supported-kept-requires
with_supported-kept-requires c = (lowest c.places.rest c.places.invariant.fits c.places-test.true).0

pub without_bit-rest-requires : goal.without_bit-rest-requires
without_bit-rest-requires c = (lowest c.places.rest c.places.invariant.fits c.places-test.true).1

pub places-preserved : goal.places-preserved
places-preserved c = record {
  found = found_next c.args.x c.args.y c.args.z c.places.rest c.places.kept.x c.places.kept.y c.places.kept.z _ _ _ _ _ c.places.invariant.found
      (lowest c.places.rest c.places.invariant.fits c.places-test.true).1 c.without_bit-rest.ensures.left
      c.with_supported-kept.ensures.at_x c.with_supported-kept.ensures.at_y c.with_supported-kept.ensures.at_z;
  fits = let less = c.without_bit-rest.ensures.less in omega (arith, less, c.places.invariant.fits);
}

pub returns : goal.returns
returns c = found_all _ _ _ _ _ _ (subst (λ n. Found c.args.x c.args.y c.args.z n c.places.kept.x c.places.kept.y c.places.kept.z) c.places-test.false c.places.invariant.found)
