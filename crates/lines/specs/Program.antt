-- What a program promises that holds its lines in a buffer and answers each by itself, whatever the chunks of its input.
use Rattle.std.specs.Prelude.{◌≡◌, ℕ, ◌<◌, List, Bool, false, length}
use Rattle.lines.specs.Machine.{closed, text_of, owes}
use Rattle.lines.specs.Calls.{Call, Sound, put, taken, waits_after, Rests, Drains}
use Rattle.lines.specs.Held.{nothing_held, Store, store, held, capped}

pub record Program (answered : List ℕ → List ℕ) (line_max page_size : ℕ) : Type 0 where
  -- calls that take all of an input, with the newline that its last line may lack, until no line waits: what they put is the answer to each line, in order;
  -- a line of more than `line_max` bytes is answered as an empty one
  pub prints : (buffer : List ℕ) → length buffer ≡ line_max → (cs : List Call) (input : List ℕ) → Sound cs
      → taken (held answered) (store nothing_held buffer) false cs ≡ closed input → waits_after (held answered) (store nothing_held buffer) false cs ≡ false
      → put (held answered) (store nothing_held buffer) false cs ≡ text_of (capped line_max answered) input
  -- a chunk, call after call, on empty pages of `page_size` bytes: more calls than there are bytes owed take all of it, and no line is left to wait
  pub drains : (k : Store) (w : Bool) (input : List ℕ) (cs : List Call) → Rests (held answered) page_size k w input cs
      → length (owes (held answered) k w input) < length cs → Drains (held answered) k w input cs
