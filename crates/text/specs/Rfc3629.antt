-- Demand 2's "characters are proved to be written and read as RFC 3629 says", as one statement. It is proved in proofs/Rfc3629.antt.
use Rattle.std.specs.Prelude.{◌≡◌, Bool, true, false, cond, List, [], ◌∷◌, ℕ, eqb, ltb}
use Rattle.text.specs.Utf8.{is_scalar, all_scalars, encoded, encoded_all, Octets}
use Rattle.text.specs.Reader.{is_utf8, scalars}

-- Some list of scalar values whose bytes these are.
pub record Written (s : List ℕ) : Type 0 where
  pub list : List ℕ
  pub proper : all_scalars list ≡ true
  pub bytes : encoded_all list ≡ s

-- One list of numbers stands before another in the lexicographic order: it is smaller at the first place where they differ, or ends there.
unfoldable pub before : List ℕ → List ℕ → Bool
before [] [] = false
before [] (y ∷ t) = true
before (x ∷ s) [] = false
before (x ∷ s) (y ∷ t) = cond (eqb x y) (before s t) (ltb x y)

pub record AsRfc3629 : Type 0 where
  -- the reader takes just the byte strings of the grammar
  pub taken_is_well_formed : (s : List ℕ) → is_utf8 s ≡ true → Octets s
  pub well_formed_is_taken : (s : List ℕ) → Octets s → is_utf8 s ≡ true
  -- those are just the byte strings that some list of scalar values is written as
  pub well_formed_is_written : (s : List ℕ) → Octets s → Written s
  pub written_is_well_formed : (s : List ℕ) → Written s → Octets s
  -- that list is the only one
  pub one_list : (s : List ℕ) (v w : Written s) → v.list ≡ w.list
  -- reading gives back what was written, and writing what was read
  pub read_back : (cs : List ℕ) → all_scalars cs ≡ true → scalars (encoded_all cs) ≡ cs
  pub written_back : (s : List ℕ) → Octets s → encoded_all (scalars s) ≡ s
  -- section 1: characters, and texts, sort by their bytes as by their codes. What stands above holds of any pairing of the codes with the grammar's
  -- characters; only one pairing keeps the order, so that this fixes the bytes of each code
  pub bytes_sort_as_codes : (a b : ℕ) → is_scalar a ≡ true → is_scalar b ≡ true → before (encoded a) (encoded b) ≡ ltb a b
  pub texts_sort_as_codes : (cs ds : List ℕ) → all_scalars cs ≡ true → all_scalars ds ≡ true → before (encoded_all cs) (encoded_all ds) ≡ before cs ds
