-- The scratch buffer, r rows of l bytes: what the rows lack, then the errors of the lost data columns and what the other rows still lack.
use Rattle.std.specs.Prelude.{ℕ, ◌+◌, ◌-◌, ◌*◌, ◌≤◌, ◌<◌, ◌≡◌, Bool, true, false, cond, ◌⊎◌, List, ltb, length, get_or}
use Rattle.field.specs.Field.{◌⊕◌, ◌⊗◌, gpow}
use Rattle.field.specs.Bytes.{Bytes}
use Rattle.field.specs.Row.{row}
use Rattle.stripe.specs.declared.Shape.{Shape}
use Rattle.stripe.specs.Shape.{shape_refusal, parity_length}
use Rattle.stripe.specs.Stripe.{runs, run_length, parity_byte, data_of, among, plain_runs}
use Rattle.stripe.proofs.Errors.{points}
use Rattle.stripe.proofs.Word.{word_errors}
use Rattle.stripe.proofs.Mended.{data_at, check_at, wanted, word_at}
use Rattle.syndromes.specs.Syndromes.{Syndromes}
use Rattle.mending.specs.declared.system.System.{System}
use Rattle.mending.specs.Slots.{weighted, Outside}
use Rattle.mending.specs.System.{lost_in, gone, Other, Posed}

-- an allowed shape, a system for it, and a buffer of its rows
pub record Buffers (s : Shape) (p : System) (len : ℕ) : Type 0 where
  pub shape : shape_refusal s ≡ 0
  pub posed : Posed s p
  pub long : len ≡ parity_length s

-- byte y of row j
abbrev pub row_byte : Shape → List ℕ → ℕ → ℕ → ℕ
row_byte s ys j y = get_or ys (j * s.l + y) 0

-- row j, times g^(j x), is what parity column j as it lies is apart from the parity of the data as they lie
abbrev pub Lies : Shape → ℕ → List ℕ → List ℕ → ℕ → ℕ → Type 0
Lies s x xs ys j y = gpow (j * x) ⊗ row_byte s ys j y ≡ check_at s xs y j ⊕ parity_byte s (data_of s xs) j y

-- what row j lacks at place y of what is wanted there, and the errors of the lost data columns
abbrev pub lack_at : Shape → System → List ℕ → ℕ → ℕ → ℕ
lack_at s p xs y j = wanted s (lost_in p) xs y j ⊕ row j (data_at s xs y)

abbrev pub errors_at : Shape → System → List ℕ → ℕ → List ℕ
errors_at s p xs y = word_errors s.k (lost_in p) (data_at s xs y) (wanted s (lost_in p) xs y)

-- the rows solved by hold the errors at place y
abbrev pub HoldsErrors : Shape → System → List ℕ → List ℕ → ℕ → Type 0
HoldsErrors s p xs ys y = (v : ℕ) → v < p.count → row_byte s ys (p.first + p.step * v) y ≡ get_or (errors_at s p xs y) v 0

-- row j holds what it lacks, and what it still lacks once the errors are added
abbrev pub Lacks : Shape → System → List ℕ → List ℕ → ℕ → ℕ → Type 0
Lacks s p xs ys j y = gpow (j * p.pivot) ⊗ row_byte s ys j y ≡ lack_at s p xs y j

abbrev pub StillLacks : Shape → System → List ℕ → List ℕ → ℕ → ℕ → Type 0
StillLacks s p xs ys j y = gpow (j * p.pivot) ⊗ row_byte s ys j y ≡ wanted s (lost_in p) xs y j ⊕ row j (word_at s (lost_in p) xs y)

-- the runs below b are solved
pub record SolvedBelow (s : Shape) (p : System) (xs : List ℕ) (b : ℕ) (ys : List ℕ) : Type 0 where
  pub long : length ys ≡ parity_length s
  pub errors : (y : ℕ) → y < b * run_length s → y < s.l → HoldsErrors s p xs ys y
  pub rows : (j y : ℕ) → j < s.r → Other p j → y < b * run_length s → y < s.l → Lacks s p xs ys j y
  pub rest : (j y : ℕ) → j < s.r → b * run_length s ≤ y → y < s.l → Lies s p.pivot xs ys j y

pub record RunsSolved (s : Shape) (p : System) (ys zs : List ℕ) : Type 0 where
  pub long : length zs ≡ length ys
  pub all : (xs : List ℕ) → Bytes xs → Syndromes s p.pivot xs ys → SolvedBelow s p xs (runs s) zs

-- in a run b from r on, to each row i below j is added row b of the errors at the same place of run i; all else stays
pub record Carried (s : Shape) (p : System) (b j : ℕ) (ys zs : List ℕ) : Type 0 where
  pub long : length zs ≡ length ys
  pub on : (i q : ℕ) → plain_runs s ≤ b → i < j → q < run_length s
      → row_byte s zs i (b * run_length s + q)
      ≡ row_byte s ys i (b * run_length s + q)
      ⊕ weighted (points b (gone s p)) (λ v. row_byte s ys (p.first + p.step * v) (i * run_length s + q))
  pub off : (i y : ℕ) → i < s.r → y < s.l → (b < plain_runs s) ⊎ ((j ≤ i) ⊎ Outside (b * run_length s) (run_length s) y)
      → row_byte s zs i y ≡ row_byte s ys i y

-- the mended data have the row that is wanted, at each place in each row that survives
abbrev pub Fine : Shape → List ℕ → List ℕ → ℕ → ℕ → Type 0
Fine s es xs j y = row j (word_at s es xs y) ≡ wanted s es xs y j

abbrev pub AllFine : Shape → List ℕ → List ℕ → Type 0
AllFine s es xs = (j y : ℕ) → j < s.r → y < s.l → among (s.k + j) es ≡ false → Fine s es xs j y

-- all runs are solved, and the rows below j settled
pub record SettledBelow (s : Shape) (p : System) (xs : List ℕ) (j : ℕ) (ys : List ℕ) : Type 0 where
  pub long : length ys ≡ parity_length s
  pub errors : (y : ℕ) → y < s.l → HoldsErrors s p xs ys y
  pub done : (i y : ℕ) → i < j → i < s.r → Other p i → y < s.l → StillLacks s p xs ys i y
  pub rest : (i y : ℕ) → j ≤ i → i < s.r → Other p i → y < s.l → Lacks s p xs ys i y
  pub fine : (i y : ℕ) → i < j → i < s.r → Other p i → y < s.l → among (s.k + i) (lost_in p) ≡ false → Fine s (lost_in p) xs i y

-- one row more, or a row that survives is not fine
pub record RowSettles (s : Shape) (p : System) (j : ℕ) (ys : List ℕ) (v : Bool) (zs : List ℕ) : Type 0 where
  pub long : length zs ≡ length ys
  pub so : (xs : List ℕ) → Bytes xs → SettledBelow s p xs j ys → v ≡ true → SettledBelow s p xs (j + 1) zs
  pub not_so : (xs : List ℕ) → Bytes xs → SettledBelow s p xs j ys → v ≡ false → AllFine s (lost_in p) xs → ⊥

pub record Settles (s : Shape) (p : System) (ys : List ℕ) (v : Bool) (zs : List ℕ) : Type 0 where
  pub long : length zs ≡ length ys
  pub so : (xs : List ℕ) → Bytes xs → SolvedBelow s p xs (runs s) ys → v ≡ true → SettledBelow s p xs s.r zs
  pub not_so : (xs : List ℕ) → Bytes xs → SolvedBelow s p xs (runs s) ys → v ≡ false → AllFine s (lost_in p) xs → ⊥

-- the row that holds what lost column v, at position i, lacks
abbrev pub slot_row : Shape → System → ℕ → ℕ → ℕ
slot_row s p v i = cond (ltb v p.count) (p.first + p.step * v) (i - s.k)

-- it is added to each of the first e lost columns, which mends them; all else stays
pub record MendedBelow (s : Shape) (p : System) (e : ℕ) (slots xs ys : List ℕ) : Type 0 where
  pub long : length ys ≡ length xs
  pub own : (v y : ℕ) → v < e → y < s.l
      → row_byte s ys (get_or p.lost.at v 0) y
      ≡ row_byte s xs (get_or p.lost.at v 0) y ⊕ row_byte s slots (slot_row s p v (get_or p.lost.at v 0)) y
  pub other : (c y : ℕ) → y < s.l → ((v : ℕ) → v < e → c ≡ get_or p.lost.at v 0 → ⊥) → row_byte s ys c y ≡ row_byte s xs c y
