-- What the walk over the nodes makes.
--     runs_of set      the runs of a set that is lent or made
--     VariablesBelow count e      each variable is below the count
--     IsNodeSet whole number e sets L      L is the set of the node e, the sets of e and of all below lie in the range, and
--         where no variable occurs twice the ends of the runs are values
use Rattle.std.specs.Prelude.{ℕ, ◌<◌, ℤ, List, All}
use Rattle.ivl_laws.specs.Runs.{IsRunsOf}
use Rattle.ivl_expr.specs.declared.expr.Expr.{Expr}
use Rattle.ivl_expr.specs.declared.expr.Expr.TheVariants.{Var, Const, Add', Sub', Mul'}
use Rattle.ivl_expr.specs.declared.nodes.NodeSet.{NodeSet}
use Rattle.ivl_expr.specs.declared.nodes.NodeSet.TheVariants.{Lent, Made}
use Rattle.ivl_expr.specs.Nodes.{AllNodesIn, Node}
use Rattle.ivl_expr.specs.Values.{Values}
use Rattle.ivl_expr.specs.Variables.{ReadOnce}

abbrev pub runs_of : {B O : Type 0} → NodeSet B O → List (ℤ × ℤ)
runs_of (Lent set) = set.now
runs_of (Made set) = set

abbrev pub VariablesBelow : {B : Type 0} → ℕ → Expr B → Type 0
VariablesBelow count (Var i) = i < count
VariablesBelow count (Const c) = Unit {0}
VariablesBelow count (Add' p a q b) = VariablesBelow count a × VariablesBelow count b
VariablesBelow count (Sub' p a q b) = VariablesBelow count a × VariablesBelow count b
VariablesBelow count (Mul' p a q b) = VariablesBelow count a × VariablesBelow count b

pub record IsNodeSet {B : Type 0} (whole : ℤ × ℤ) (number : B → ℤ) (e : Expr B) (sets : ℕ → ℤ → Type 0) (L : List (ℤ × ℤ)) : Type 0 where
  pub nodes : AllNodesIn whole number e sets
  pub members : IsRunsOf L (Node number e sets)
  pub ends : ReadOnce e → All (λ run. Values number e sets run.0 × Values number e sets run.1) L
