use Rattle.plane_equations.proofs.Boxes.{positive_box}
use Rattle.plane_equations.proofs.plane.Plane.is_positive.Goals as goal

pub returns-clause-positive : goal.returns-clause-positive
returns-clause-positive c positive i j fits_i fits_j =
    positive_box c.args.self.now i j fits_i fits_j (rw c.has_positive_corners.ensures at positive)
