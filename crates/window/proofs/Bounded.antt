-- Tests over the numbers below a bound say what they are named for.
use Rattle.std.proofs.Common.{◌≡◌, ℕ, ◌+◌, ◌<◌, Bool, true, ◌||◌, Decides, refl, add-one}
use Rattle.std.proofs.lemmas.Bool.Decides.{Decides-below_and, Decides-below_or}
use Rattle.window.specs.Below.{all_below, any_below}

pub all_decides : (p : ℕ → Bool) (P : ℕ → Type 0) → ((k : ℕ) → Decides (p k) (P k)) → (n : ℕ) → Decides (all_below p n) ((k : ℕ) → k < n → P k)
unfolding all_below
all_decides p P each n = Decides-below_and p P (all_below p) each refl (λ _. refl) n

pub any_decides : (p : ℕ → Bool) (P : ℕ → Type 0) → ((k : ℕ) → Decides (p k) (P k)) → (n : ℕ) → Decides (any_below p n) ((k : ℕ) × (k < n) × P k)
unfolding any_below
any_decides p P each n = Decides-below_or p P (any_below p) each refl (λ _. refl) n

-- a test that each number below n passes
pub all_from : (p : ℕ → Bool) (n : ℕ) → ((i : ℕ) → i < n → p i ≡ true) → all_below p n ≡ true
all_from p n h = (all_decides p (λ i. p i ≡ true) (λ i. ((λ e. e), (λ e. e))) n).1 h

pub all_at : (p : ℕ → Bool) (n i : ℕ) → i < n → all_below p n ≡ true → p i ≡ true
all_at p n i l h = (all_decides p (λ i. p i ≡ true) (λ i. ((λ e. e), (λ e. e))) n).0 h i l

-- a test that some number below n passes
pub any_from : (p : ℕ → Bool) (n i : ℕ) → i < n → p i ≡ true → any_below p n ≡ true
any_from p n i l h = (any_decides p (λ i. p i ≡ true) (λ i. ((λ e. e), (λ e. e))) n).1 (i, l, h)

pub any_at : (p : ℕ → Bool) (n : ℕ) → any_below p n ≡ true → (i : ℕ) × (i < n) × (p i ≡ true)
any_at p n h = (any_decides p (λ i. p i ≡ true) (λ i. ((λ e. e), (λ e. e))) n).0 h

-- one more, as a loop has it
pub any_more : (p : ℕ → Bool) (n : ℕ) → any_below p (n + 1) ≡ (p n || any_below p n)
unfolding any_below
any_more p n = rw add-one refl
