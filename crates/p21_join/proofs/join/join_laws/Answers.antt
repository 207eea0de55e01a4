use Rattle.p21_join.proofs.Joins.{joined, behind, refused}
use Rattle.p21_join.proofs.join.join_laws.Goals as goal

pub returns : goal.returns
returns c = record { own = joined; behind = behind; refused = refused }
