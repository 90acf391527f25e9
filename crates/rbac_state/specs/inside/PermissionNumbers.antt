-- A permission as one number, which has its order.
use Rattle.std.specs.Prelude.{ℕ, ◌+◌, ◌*◌, ◌/◌, ◌%◌}

-- the operation before the object
abbrev pub permission_number : ℕ × ℕ → ℕ
permission_number p = p.0 * 4294967296 + p.1

-- the permission of a number
abbrev pub permission_of : ℕ → ℕ × ℕ
permission_of n = (n / 4294967296, n % 4294967296)

-- a permission's number with a role, as the permission with the role
abbrev pub grant_of : ℕ × ℕ → (ℕ × ℕ) × ℕ
grant_of g = (permission_of g.0, g.1)
