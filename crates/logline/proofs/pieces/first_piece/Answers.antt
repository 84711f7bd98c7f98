use Rattle.std.proofs.Common.{◌≡◌, ℕ, ◌<◌, length, get_or, take, rules}
use Rattle.std.proofs.ByRecursion.{All-from_get_or}
use Rattle.logline.proofs.Cutting.{clear_front, cut_at, cut_first, cut_one}
use Rattle.logline.proofs.pieces.first_piece.Goals as goal

pub returns-in-Some-clause-pieces : goal.returns-in-Some-clause-pieces
returns-in-Some-clause-pieces c =
    let none : (k : ℕ) → k < c.in-Some.n → get_or c.args.bytes.now k 0 ≡ 32 → ⊥ = search rules in
    let within : c.in-Some.n < length c.args.bytes.now = search rules in
    let here : get_or c.args.bytes.now c.in-Some.n 0 ≡ 32 = search rules in
    cut_first c.args.bytes.now (take c.in-Some.n c.args.bytes.now) _ (clear_front c.args.bytes.now c.in-Some.n within none) (cut_at c.args.bytes.now c.in-Some.n within here)

pub returns-in-None-clause-pieces : goal.returns-in-None-clause-pieces
returns-in-None-clause-pieces c =
    let none : (k : ℕ) → k < length c.args.bytes.now → get_or c.args.bytes.now k 0 ≡ 32 → ⊥ = search rules in
    cut_one c.args.bytes.now (All-from_get_or (λ b. b ≡ 32 → ⊥) c.args.bytes.now 0 none)
