-- Document 01, "Fold": FNV-1a, 64 bits.
use Rattle.std.specs.Prelude.{ℕ, zero, suc, ◌*◌, ◌/◌, ◌%◌, ◌^◌, List, [], ◌∷◌}
use Rattle.std.specs.Int.Bits.{bit_xor}
use Rattle.arithmetic.specs.declared.fold.StateHash.{StateHash}

-- One byte into the state: xor, then times 0x100000001b3 modulo 2^64.
unfoldable pub fnv_byte : ℕ → ℕ → ℕ
fnv_byte h b = bit_xor h b * 0x100000001b3 % 2 ^ 64

-- Bytes into the state, front first.
unfoldable pub fold_bytes : ℕ → List ℕ → ℕ
fold_bytes h [] = h
fold_bytes h (b ∷ bs) = fold_bytes (fnv_byte h b) bs

-- The n lowest bytes of x, lowest first: with n its number of bytes, x little-endian.
unfoldable pub low_bytes : ℕ → ℕ → List ℕ
low_bytes zero x = []
low_bytes (suc n) x = (x % 256) ∷ low_bytes n (x / 256)

-- The state before any byte.
abbrev pub empty_hash : StateHash
empty_hash = record { state = 0xcbf29ce484222325 }

-- The state after some bytes more.
unfoldable pub absorbed : StateHash → List ℕ → StateHash
absorbed h bs = record { state = fold_bytes h.state bs }
