-- A row is found again in its bytes.
use Rattle.std.proofs.Common.{◌≡◌, Bool, true, false, nat_lt, ℕ, ◌-◌, ◌<◌, ◌≤◌, ◌^◌, List, ◌++◌, length, replicate, Option, Some, None, refl, sym, ◌∙◌, ap, subst, arith, length-append, if◌then◌else◌, inl, inr, take, position, not}
use Rattle.std.proofs.Math.Seq.{take-append_seam}
use Rattle.std.proofs.lemmas.List.{length-replicate}
use Rattle.std.proofs.lemmas.Bool.{cases_lt, ltb-false, le-ltb}
use Rattle.std.proofs.lemmas.Nat.{from_be_bytes-to_be_bytes_2, from_be_bytes-to_be_bytes_8}
use Rattle.std.specs.Int.{to_be_bytes, from_be_bytes, w16, w64}
use Rattle.geo_base.specs.declared.points.Point.{Point}
use Rattle.geo_base.specs.Notes.{IsNote, note_fault, or_else, is_dash, is_note_byte}
use Rattle.btree_image.specs.Rows.{IsStored}
use Rattle.primary_ix.specs.declared.rows.PrimRow.{PrimRow}
use Rattle.primary_ix.specs.Rows.{Matter, prim_layout, row_bytes, row_of, note_room, note_in, unless_fault, with_anti}

none_behind : (a b : Option ℕ) → or_else a b ≡ None → b ≡ None
none_behind None b h = h
none_behind (Some n) b h = cc

not_long : (b : Bool) (n : ℕ) (o : Option ℕ) → (if b then Some n else o) ≡ None → b ≡ false
not_long true n o h = cc
not_long false n o h = refl

not_both : {m n : ℕ} → m < n → n ≤ m → ⊥
not_both h k = omega arith

-- a note fits its room
pub note_short : (note : List ℕ) → IsNote note → length note ≤ 64
note_short note is =
    elim (cases_lt 64 (length note)) [
      | inl long ↦ absurd (not_both long (ltb-false 64 (length note) (not_long (nat_lt 64 (length note)) 64 (if is_dash note then Some 0 else None) (none_behind (position (λ b. not (is_note_byte b)) (take 64 note)) _ is))))
      | inr short ↦ short
    ]

-- its numbers fit, and its note is one
pub record FitsBytes (matter : Point × List ℕ) : Type 0 where
  pub x : matter.0.x < 2 ^ 16
  pub y : matter.0.y < 2 ^ 16
  pub note : IsNote matter.1

abbrev pub FitsMatter : Matter → Type 0
FitsMatter None = Unit {0}
FitsMatter (Some matter) = FitsBytes matter

room-length : (note : List ℕ) → length note ≤ 64 → length (note ++ replicate {A = ℕ} (64 - length note) 0) ≡ 64
room-length note short = omega (arith, length-append note (replicate {A = ℕ} (64 - length note) 0), length-replicate {A = ℕ} (64 - length note) 0)

row-length : (key : ℕ) (matter : Matter) → FitsMatter matter → length (row_bytes (record { key = key; matter = matter })) ≡ 78
row-length key None fits = refl
row-length key (Some matter) fits = let room = room-length matter.1 (note_short matter.1 fits.note) in omega (arith, room)

note-back : (b : Bool) (fault : Option ℕ) (bytes note : List ℕ) → b ≡ false → bytes ≡ note → note_fault note ≡ None
    → (if b then None else unless_fault (note_fault bytes) bytes) ≡ Some note
note-back b fault bytes note short same is = rw (short, same, is) refl

row-back : (key : ℕ) (matter : Matter) → key < 2 ^ 64 → FitsMatter matter → row_of (row_bytes (record { key = key; matter = matter })) ≡ Some (record { key = key; matter = matter })
row-back key None below fits = λ i. Some (record { key = from_be_bytes-to_be_bytes_8 key below i; matter = None })
row-back key (Some matter) below fits =
    let note : note_in (row_bytes (record { key = key; matter = Some matter })) ≡ Some matter.1 =
    note-back (nat_lt 64 (length matter.1)) (note_fault (take (length matter.1) (note_room (Some matter)))) (take (length matter.1) (note_room (Some matter))) matter.1
    (le-ltb 64 (length matter.1) (note_short matter.1 fits.note)) (take-append_seam matter.1 (replicate {A = ℕ} (64 - length matter.1) 0)) fits.note in
    ap (with_anti 0 (from_be_bytes w64 (to_be_bytes w64 key)) (record { x = from_be_bytes w16 (to_be_bytes w16 matter.0.x); y = from_be_bytes w16 (to_be_bytes w16 matter.0.y) })) note
    ∙ (λ i. Some (record {
      key = from_be_bytes-to_be_bytes_8 key below i;
      matter = Some (record { x = from_be_bytes-to_be_bytes_2 matter.0.x fits.x i; y = from_be_bytes-to_be_bytes_2 matter.0.y fits.y i }, matter.1);
    }))

pub stored_row : (key : ℕ) (matter : Matter) → key < 2 ^ 64 → FitsMatter matter → IsStored prim_layout (record { key = key; matter = matter })
stored_row key matter below fits = record {
  row_length = row-length key matter fits;
  row_back = row-back key matter below fits;
  key_first = refl;
  key_length = refl;
  key_back = from_be_bytes-to_be_bytes_8 key below;
}

pub stored_as : (row : PrimRow) (matter : Matter) → row.matter ≡ matter → row.key < 2 ^ 64 → FitsMatter matter → IsStored prim_layout row
stored_as row matter is below fits = subst (IsStored prim_layout) (λ i. record { key = row.key; matter = sym is i }) (stored_row row.key matter below fits)
