-- Writing the lines of words, one after another.
use Rattle.std.proofs.Common.{◌≡◌, ℕ, ◌+◌, ◌<◌, ◌≤◌, List, ◌++◌, length, get_or, drop, sym, ap, ◌∙◌, append_assoc, append-nil}
use Rattle.std.proofs.lemmas.List.{at_drop_more, at_drop_all}
use Rattle.listing.specs.Lines.{line_of, ended, lines_from}

-- the line of one more word moves from what is left to what is written
pub one_more : (t u e ws : List ℕ) (at : ℕ) → at < length ws → u ≡ t ++ ended (line_of at (get_or ws at 0)) → t ++ lines_from at (drop at ws) ≡ e → u ++ lines_from (at + 1) (drop (at + 1) ws) ≡ e
one_more t u e ws at h added so_far =
    let step = at_drop_more (lines_from at) ws at 0 h in
    ap (λ (l : List ℕ). l ++ lines_from (at + 1) (drop (at + 1) ws)) added ∙ append_assoc t _ _ ∙ ap (λ (l : List ℕ). t ++ l) (sym step) ∙ so_far

-- past the last word nothing is left
pub all_done : (t e ws : List ℕ) (at : ℕ) → length ws ≤ at → t ++ lines_from at (drop at ws) ≡ e → t ≡ e
all_done t e ws at h whole = sym (append-nil t) ∙ ap (λ (l : List ℕ). t ++ l) (sym (at_drop_all (lines_from at) ws at h)) ∙ whole
