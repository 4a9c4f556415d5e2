-- Where a unit stands in the sheet's bytes, and that bytes behind the units do not count. Assumes nothing.
use mathlib.Core.Path.{◌≡◌, refl, ap, ap₂, ◌∙◌}
use mathlib.Core.List.{List, [], ◌∷◌, ◌++◌, map}
use Prim.Native.Nat.{ℕ, zero, suc, ◌+◌, ◌*◌, ◌≤◌, ◌<◌}
use native.Mathlib.Omega.{arith}
use native.Mathlib.Numerals.{add-one}
use lib.ListN.{length, get_or, take, drop, length-map, length-drop, get_or-append, get_or-map}
use lib.Seq.{drop-drop, drop-cons, take-suc, take-append-le, drop-append-le}
use Rattle.sheet.specs.Layout.{Sheet, unit_row, rows, sheet_of, byte, le16, le32}
use Rattle.sheet.specs.Inner.Fields.{unit_row_at, unit_of}

-- ---- the rows
rows-count : (n : ℕ) (bytes : List ℕ) → length (rows n bytes) ≡ n
unfolding rows
rows-count zero bytes = refl
rows-count (suc n) bytes = ap suc (rows-count n (drop 32 bytes))

row_at : (n i : ℕ) (bytes : List ℕ) → i < n → get_or (rows n bytes) i [] ≡ take 32 (drop (32 * i) bytes)
unfolding rows
row_at zero i bytes h = absurd (omega arith)
row_at (suc n) zero bytes h = refl
row_at (suc n) (suc i) bytes h =
    let e : 32 + 32 * i ≡ 32 * suc i = omega arith in
    row_at n i (drop 32 bytes) (omega arith)
    ∙ ap (take 32) (drop-drop (32 * i) 32 bytes ∙ ap (λ (k : ℕ). drop k bytes) e)

pub units-count : (bytes : List ℕ) → length (sheet_of bytes).units ≡ (sheet_of bytes).unit_count
unfolding sheet_of
units-count bytes = length-map (rows (le16 bytes 8) (drop 48 bytes)) unit_row ∙ rows-count (le16 bytes 8) (drop 48 bytes)

-- the units' ids, and one of them as code reads it
pub ids-count : (bytes : List ℕ) → length (map (λ u. u.id) (sheet_of bytes).units) ≡ (sheet_of bytes).unit_count
ids-count bytes = length-map (sheet_of bytes).units (λ u. u.id) ∙ units-count bytes

pub id-at : (s : Sheet) (i : ℕ) → get_or (map (λ u. u.id) s.units) i 0 ≡ (unit_of s i).id
unfolding unit_row
id-at s i = get_or-map (λ u. u.id) s.units i (unit_row [])

module _ (bytes : List ℕ) (i : ℕ) (h : i < (sheet_of bytes).unit_count) where
  -- unit i stands at byte 48 + 32 i
  pub unit-at : unit_of (sheet_of bytes) i ≡ unit_row_at bytes (48 + 32 * i)
  unfolding sheet_of
  unit-at =
      get_or-map unit_row (rows (le16 bytes 8) (drop 48 bytes)) i []
      ∙ ap unit_row (row_at (le16 bytes 8) i (drop 48 bytes) h ∙ ap (take 32) (drop-drop (32 * i) 48 bytes))

  -- unit i and those behind it
  pub units-from : drop i (sheet_of bytes).units ≡ unit_of (sheet_of bytes) i ∷ drop (i + 1) (sheet_of bytes).units
  units-from = rw add-one (drop-cons (sheet_of bytes).units i (unit_row []) (omega (arith, units-count bytes)))

  -- one unit more
  pub units-next : take (i + 1) (sheet_of bytes).units ≡ take i (sheet_of bytes).units ++ (unit_of (sheet_of bytes) i ∷ [])
  units-next = rw add-one (take-suc (sheet_of bytes).units i (unit_row []) (omega (arith, units-count bytes)))

-- ---- a sheet with something behind it, as in an archive record
rows_append : (n : ℕ) (xs ys : List ℕ) → 32 * n ≤ length xs → rows n (xs ++ ys) ≡ rows n xs
unfolding rows
rows_append zero xs ys h = refl
rows_append (suc n) xs ys h =
    ap₂ (λ (r : List ℕ) (rs : List (List ℕ)). r ∷ rs) (take-append-le 32 xs ys (omega arith))
    (ap (rows n) (drop-append-le 32 xs ys (omega arith)) ∙ rows_append n (drop 32 xs) ys (omega (arith, length-drop 32 xs)))

module _ (xs ys : List ℕ) where
  pub byte_append : (at : ℕ) → at < length xs → byte (xs ++ ys) at ≡ byte xs at
  byte_append at h = get_or-append xs ys 0 at h

  pub le16_append : (at : ℕ) → at + 1 < length xs → le16 (xs ++ ys) at ≡ le16 xs at
  le16_append at h = omega (arith, byte_append at (omega arith), byte_append (at + 1) h)

  le32_append : (at : ℕ) → at + 3 < length xs → le32 (xs ++ ys) at ≡ le32 xs at
  le32_append at h = omega (arith, le16_append at (omega arith), byte_append (at + 2) (omega arith), byte_append (at + 3) h)

  -- only the first 48 + 32 n bytes count
  pub sheet_append : 48 + 32 * (sheet_of xs).unit_count ≤ length xs → sheet_of (xs ++ ys) ≡ sheet_of xs
  unfolding sheet_of
  sheet_append fits =
      let h : 48 + 32 * le16 xs 8 ≤ length xs = fits in
      let b : (k : ℕ) → k < 48 → byte (xs ++ ys) k ≡ byte xs k = λ k p. byte_append k (omega arith) in
      let w : (k : ℕ) → k < 45 → le32 (xs ++ ys) k ≡ le32 xs k = λ k p. le32_append k (omega arith) in
      let us : map unit_row (rows (le16 (xs ++ ys) 8) (drop 48 (xs ++ ys))) ≡ map unit_row (rows (le16 xs 8) (drop 48 xs)) =
      ap (map unit_row)
      (ap₂ rows (le16_append 8 (omega arith)) (drop-append-le 48 xs ys (omega arith)) ∙ rows_append (le16 xs 8) (drop 48 xs) ys (omega (arith, length-drop 48 xs))) in
      λ i. record {
        magic = take-append-le 4 xs ys (omega arith) i;
        version = le16_append 4 (omega arith) i;
        month = b 6 (omega arith) i;
        model = b 7 (omega arith) i;
        unit_count = le16_append 8 (omega arith) i;
        water_source = b 10 (omega arith) i;
        base_percent = b 11 (omega arith) i;
        common_heat_percent = b 12 (omega arith) i;
        common_water_percent = b 13 (omega arith) i;
        unmetered_factor = b 14 (omega arith) i;
        loss_factor = b 15 (omega arith) i;
        shared_meter = w 16 (omega arith) i;
        price = w 20 (omega arith) i;
        water_readings = w 24 (omega arith) i ∷ w 28 (omega arith) i ∷ w 32 (omega arith) i ∷ w 36 (omega arith) i ∷ w 40 (omega arith) i ∷ w 44 (omega arith) i ∷ [];
        units = us i;
      }
