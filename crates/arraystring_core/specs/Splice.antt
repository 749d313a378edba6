-- These records say what a replacement and a removal do to a text, and to the counts of looks and of moved bytes.
use Rattle.std.specs.Prelude.{◌≡◌, ◌≢◌, ℕ, ◌+◌, ◌-◌, ◌≤◌, List, ◌++◌, min}
use Rattle.arraystring_base.specs.Text.{size, front, back}
use Rattle.arraystring_base.specs.Counts.{StepsView}

-- the part of the old text between two boundaries became `given`, and no look was counted. At most as many bytes moved as lie outside the
-- part. If the size changed, at least as many moved as lie before the part or as lie behind it, whichever are fewer
pub record ReplacesPartCountingMoves (old : List ℕ) (start end : ℕ) (given new : List ℕ) (before after : StepsView) : Type 0 where
  pub text : new ≡ front old start ++ (given ++ back old end)
  pub most : after.moved ≤ before.moved + (start + (size old - end))
  pub least : end ≢ start + size given → before.moved + min start (size old - end) ≤ after.moved
  pub counted : before.moved ≤ after.moved
  pub looked : after.looked ≡ before.looked

-- the part of the old text between two boundaries is gone, and no look was counted. At most as many bytes moved as lie behind the part, and
-- none if it begins at 0. If it has bytes, at least as many moved as lie before it or as lie behind it, whichever are fewer
pub record RemovesPartCountingMoves (old : List ℕ) (start end : ℕ) (new : List ℕ) (before after : StepsView) : Type 0 where
  pub text : new ≡ front old start ++ back old end
  pub free : start ≡ 0 → after.moved ≡ before.moved
  pub tail_alone : after.moved ≤ before.moved + (size old - end)
  pub least : start ≢ end → before.moved + min start (size old - end) ≤ after.moved
  pub counted : before.moved ≤ after.moved
  pub looked : after.looked ≡ before.looked
