-- How bytes are cut into pieces, from the first byte on.
use Rattle.std.proofs.Common.{ℕ, zero, suc, ◌≡◌, ◌<◌, ◌≤◌, ◌+◌, ◌-◌, Bool, true, false, not, List, [], ◌∷◌, length, get_or, take, drop, refl, arith, position, Some, None, subst}
use Rattle.std.proofs.lemmas.List.Quantifiers.{position-Some}
use Rattle.strict_text.specs.Pieces.{is_space, is_within, pieces_of, loose_words_of}
use Rattle.strict_text.proofs.Positions.{none_passes, not_false, not_true}

module _ (joined : ℕ → ℕ → Bool) where
  gaps_before : (bytes : List ℕ) (n : ℕ) → n ≤ length bytes → ((k : ℕ) → k < n → not (is_space (get_or bytes k 0)) ≡ false) → pieces_of joined bytes ≡ pieces_of joined (drop n bytes)
  gaps_before bytes zero lt before = refl
  gaps_before [] (suc n) lt before = refl
  gaps_before (b ∷ bytes) (suc n) lt before =
      let first : is_space b ≡ true = not_false (is_space b) (before 0 (omega arith)) in
      rw first (gaps_before bytes n (omega arith) (λ k h. before (suc k) (omega arith)))

  -- the pieces are those from the first byte on that is no space and no tab
  pub pieces_from : (bytes : List ℕ) (n : ℕ) → position (λ b. not (is_space b)) bytes ≡ Some n → pieces_of joined bytes ≡ pieces_of joined (drop n bytes)
  pieces_from bytes n e = let p = position-Some (λ b. not (is_space b)) bytes n 0 e in gaps_before bytes n (omega arith) p.2

  gaps_only : (bytes : List ℕ) → ((k : ℕ) → k < length bytes → not (is_space (get_or bytes k 0)) ≡ false) → pieces_of joined bytes ≡ []
  gaps_only [] all = refl
  gaps_only (b ∷ bytes) all =
      let first : is_space b ≡ true = not_false (is_space b) (all 0 (omega arith)) in
      rw first (gaps_only bytes (λ k h. all (suc k) (omega arith)))

  pub no_pieces : (bytes : List ℕ) → position (λ b. not (is_space b)) bytes ≡ None → pieces_of joined bytes ≡ []
  no_pieces bytes e = gaps_only bytes (none_passes (λ b. not (is_space b)) bytes e)

  -- spaces and tabs are joined to nothing before them
  abbrev pub PartsAtSpaces : Type 0
  PartsAtSpaces = (b c : ℕ) → joined b c ≡ true → is_space c ≡ false

  piece_cut : PartsAtSpaces → (bytes : List ℕ) (n : ℕ) → suc n ≤ length bytes → is_space (get_or bytes 0 0) ≡ false → ((k : ℕ) → k < n → joined (get_or bytes k 0) (get_or bytes (suc k) 0) ≡ true)
      → (suc n < length bytes → joined (get_or bytes n 0) (get_or bytes (suc n) 0) ≡ false) → pieces_of joined bytes ≡ take (suc n) bytes ∷ pieces_of joined (drop (suc n) bytes)
  piece_cut parts [] n le first along ends = absurd (omega arith)
  piece_cut parts (b ∷ []) zero le first along ends = rw first refl
  piece_cut parts (b ∷ c ∷ bytes) zero le first along ends = let apart : joined b c ≡ false = ends (omega arith) in rw (first, apart) refl
  piece_cut parts (b ∷ []) (suc n) le first along ends = absurd (omega arith)
  piece_cut parts (b ∷ c ∷ bytes) (suc n) le first along ends =
      let one : joined b c ≡ true = along 0 (omega arith) in
      let rest = piece_cut parts (c ∷ bytes) n (omega arith) (parts b c one) (λ k h. along (suc k) (omega arith)) (λ h. ends (omega arith)) in
      rw (first, one, rest) refl

  -- the first piece goes on as long as neighbours are joined
  pub piece_cut_at : PartsAtSpaces → (bytes : List ℕ) (n : ℕ) → 0 < n → n ≤ length bytes → is_space (get_or bytes 0 0) ≡ false → ((k : ℕ) → k + 1 < n → joined (get_or bytes k 0) (get_or bytes (k + 1) 0) ≡ true)
      → (n < length bytes → joined (get_or bytes (n - 1) 0) (get_or bytes n 0) ≡ false) → pieces_of joined bytes ≡ take n bytes ∷ pieces_of joined (drop n bytes)
  piece_cut_at parts bytes zero some le first along ends = absurd (omega arith)
  piece_cut_at parts bytes (suc n) some le first along ends =
      let back : suc n - 1 ≡ n = omega arith in
      piece_cut parts bytes n le first
      (λ k h. let next : k + 1 ≡ suc k = omega arith in subst (λ j. joined (get_or bytes k 0) (get_or bytes j 0) ≡ true) next (along k (omega arith)))
      (λ h. subst (λ j. joined (get_or bytes j 0) (get_or bytes (suc n) 0) ≡ false) back (ends h))

-- a piece begins where a byte that is no space and no tab is found
pub piece_begins : (bytes : List ℕ) (n : ℕ) → position (λ b. not (is_space b)) bytes ≡ Some n → is_space (get_or (drop n bytes) 0 0) ≡ false
piece_begins bytes n e = let p = position-Some (λ b. not (is_space b)) bytes n 0 e in begins_there bytes n p.0 p.1
  where
    begins_there : (bytes : List ℕ) (n : ℕ) → n < length bytes → not (is_space (get_or bytes n 0)) ≡ true → is_space (get_or (drop n bytes) 0 0) ≡ false
    begins_there [] n lt e = absurd (omega arith)
    begins_there (b ∷ bytes) zero lt e = not_true (is_space b) e
    begins_there (b ∷ bytes) (suc n) lt e = begins_there bytes n (omega arith) e

unspaced : (t : Bool) → t ≡ false → not t ≡ true
unspaced false e = refl
unspaced true e = cc

within_parts : PartsAtSpaces is_within
within_parts b c e = not_true (is_space c) e

-- a word ends at the first space or tab, and not where it begins
pub word_cut : (bytes : List ℕ) (n : ℕ) → is_space (get_or bytes 0 0) ≡ false → position is_space bytes ≡ Some n → (0 < n) × (loose_words_of bytes ≡ take n bytes ∷ loose_words_of (drop n bytes))
word_cut bytes zero first e = let p = position-Some is_space bytes 0 0 e in cc
word_cut bytes (suc n) first e =
    let p = position-Some is_space bytes (suc n) 0 e in (
      omega arith,
      piece_cut_at is_within within_parts bytes (suc n) (omega arith) (omega arith) first
          (λ k h. unspaced (is_space (get_or bytes (k + 1) 0)) (p.2 (k + 1) h)) (λ h. rw p.1 refl),
    )

pub last_word : (bytes : List ℕ) → 0 < length bytes → is_space (get_or bytes 0 0) ≡ false → position is_space bytes ≡ None → loose_words_of bytes ≡ take (length bytes) bytes ∷ loose_words_of (drop (length bytes) bytes)
last_word bytes some first e =
    piece_cut_at is_within within_parts bytes (length bytes) some (omega arith) first
    (λ k h. unspaced (is_space (get_or bytes (k + 1) 0)) (none_passes is_space bytes e (k + 1) h)) (λ h. absurd (omega arith))
