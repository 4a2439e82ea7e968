-- How much can be lent: docs/WEEKDESK.md, ‘What is written down’: ‘At most 40,000 and 4,000 bytes’.
use Rattle.std.specs.Prelude.{ℕ}

abbrev pub max_table : ℕ
max_table = 40000

abbrev pub max_log : ℕ
max_log = 4000
