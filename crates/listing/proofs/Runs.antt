-- The last run of an image begins where `run_start` says.
use Rattle.std.proofs.Common.{◌≡◌, ℕ, zero, suc, ◌<◌, true, false, List, [], ◌∷◌, length, get_or, sym, refl, ◌∙◌, add-one, arith}
use Rattle.std.proofs.lemmas.Bool.{false_from_ne_true}
use Rattle.listing.specs.Lines.{all_are, run_start, LastRun}

all_are_from : (w : ℕ) (ws : List ℕ) → ((k : ℕ) → k < length ws → get_or ws k 0 ≡ w) → all_are w ws ≡ true
all_are_from w [] h = refl
all_are_from w (v ∷ vs) h =
    let first : v ≡ w = h 0 (omega arith) in
    let rest = all_are_from w vs (λ k l. h (suc k) (omega arith)) in
    grind arith

all_are_at : (w : ℕ) (ws : List ℕ) → all_are w ws ≡ true → (k : ℕ) → k < length ws → get_or ws k 0 ≡ w
all_are_at w [] e k l = absurd (omega arith)
all_are_at w (v ∷ vs) e zero l = grind arith
all_are_at w (v ∷ vs) e (suc k) l = all_are_at w vs (grind arith) k (omega arith)

-- at the head: where all the words are equal, and where not
head_run : (w : ℕ) (ws : List ℕ) → LastRun (w ∷ ws) 0 → run_start (w ∷ ws) ≡ 0
head_run w ws run = let all = all_are_from w ws (λ k l. run.equal (suc k) (omega arith) (omega arith)) in rw all

not_yet : (w : ℕ) (ws : List ℕ) (start : ℕ) → LastRun (w ∷ ws) (suc start) → all_are w ws ≡ false
not_yet w ws start run =
    let l = run.inside in
    false_from_ne_true _ (λ e. run.longest start (omega arith) (all_are_at w (w ∷ ws) (grind arith) start (omega arith) ∙ sym (all_are_at w ws e start (omega arith))))

pub run_start_is : (image : List ℕ) (start : ℕ) → LastRun image start → run_start image ≡ start
run_start_is [] start run = let no_place = run.inside in absurd (omega arith)
run_start_is (w ∷ ws) zero run = head_run w ws run
run_start_is (w ∷ ws) (suc start) run =
    let later : LastRun ws start = record {
      inside = let l = run.inside in omega arith;
      equal = λ k p q. run.equal (suc k) (omega arith) (omega arith);
      longest = λ k e. run.longest (suc k) (omega arith);
    } in
    let test = not_yet w ws start run in
    rw (test, run_start_is ws start later, add-one)
