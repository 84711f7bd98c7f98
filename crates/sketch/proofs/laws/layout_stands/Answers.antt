use Rattle.std.proofs.Common.{◌≡◌, ℕ, ◌<◌}
use Rattle.sketch.specs.Layout.{Shape, place, width}
use Rattle.sketch.proofs.Cells.{place_same}
use Rattle.sketch.proofs.NodeLaws.{column_below}
use Rattle.sketch.proofs.laws.layout_stands.Goals as goal

apart : (s : Shape) (k r col k' r' col' : ℕ) → r < s.rows → r' < s.rows → col < width s → col' < width s → place s k r col ≡ place s k' r' col' → (k ≡ k') × (r ≡ r') × (col ≡ col')
apart s k r col k' r' col' rb rb' cb cb' e =
    let cells = place_same (width s) _ col _ col' cb cb' e in
    let rows = place_same s.rows k r k' r' rb rb' cells.0 in
    (rows.0, rows.1, cells.1)

pub returns : goal.returns
returns c = record { column_below = column_below; places_apart = apart }
