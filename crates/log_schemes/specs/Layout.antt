-- Where the logs of threads stand in memory: after the variables' lines, one after another.
use Rattle.std.specs.Prelude.{ℕ, ◌+◌, ◌*◌, List, ◌++◌, replicate, Bool, nat_le, ◌&&◌, ◌||◌}
use Rattle.ido_base.specs.Layout.{line_bytes, variables_base, logs_base, variable_lines, words_of_bytes}
use Rattle.log_schemes.specs.declared.addresses.TheConstants.{FRAME}
use Rattle.log_schemes.specs.declared.log.Log.{Log}
use Rattle.log_schemes.specs.Schemes.{bank_distance, lines_of, size_of}

-- lines of a thread's log
abbrev pub log_lines : Log → ℕ
log_lines log = lines_of (size_of log)

-- words of a thread's log
abbrev pub log_words : Log → ℕ
log_words log = 8 * log_lines log

-- how many lines there are
abbrev pub line_count : Log → (threads : ℕ) → ℕ
line_count log threads = variable_lines + log_lines log * threads

-- how many words they have
abbrev pub word_count : Log → (threads : ℕ) → ℕ
word_count log threads = 8 * line_count log threads

-- each of the count bytes from the address on lies in a line of the variables, or each in a line of a log
abbrev pub in_range : Log → (threads address count : ℕ) → Bool
in_range log threads address count =
    (nat_le variables_base address && nat_le (address + count) (variables_base + line_bytes * variable_lines))
    || (nat_le logs_base address && nat_le (address + count) (logs_base + line_bytes * log_lines log * threads))

-- ---- A thread's log: word 0 is the point, and two banks follow

-- the address of a thread's log
abbrev pub log_of : Log → (thread : ℕ) → ℕ
log_of log thread = logs_base + line_bytes * log_lines log * thread

-- the address of its point: 0 between sections, else a resume address plus the number of a bank
abbrev pub point_at : Log → (thread : ℕ) → ℕ
point_at log thread = log_of log thread

-- how far the second bank lies after the first
abbrev pub bank_bytes : Log → ℕ
bank_bytes log = bank_distance (size_of log)

-- the address of a slot of a bank
abbrev pub slot_at : Log → (thread bank slot : ℕ) → ℕ
slot_at log thread bank slot = log_of log thread + 64 + bank_bytes log * bank + 8 * slot

-- the address of a word of its frame, where locals stand in the log
abbrev pub frame_at : Log → (thread word : ℕ) → ℕ
frame_at log thread word = log_of log thread + FRAME + 8 * word

-- all words at the start: the initial bytes of the variables, and zeros
unfoldable pub initial_words : Log → (threads : ℕ) → List ℕ → List ℕ
initial_words log threads bytes = words_of_bytes bytes (8 * variable_lines) ++ replicate (log_words log * threads) 0
