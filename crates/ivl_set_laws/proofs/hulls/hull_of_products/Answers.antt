use Rattle.ivl_laws.proofs.Products.{hull_of_products}
use Rattle.ivl_set_laws.proofs.hulls.hull_of_products.Goals as goal

pub returns : goal.returns
returns c = hull_of_products
