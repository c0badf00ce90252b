-- The limits of an application.
use Rattle.std.specs.Prelude.{ℕ}

-- the greatest number of code bytes of an application
abbrev pub most_code : ℕ
most_code = 8192

-- the greatest number of its static bytes
abbrev pub most_static : ℕ
most_static = 4096

-- the greatest number of its session bytes
abbrev pub most_session : ℕ
most_session = 256

-- the greatest number of bytes of its DIR, and of its FCI
abbrev pub most_record : ℕ
most_record = 128
