-- What the definitions compute.
use Rattle.std.specs.Prelude.{◌≡◌, ℕ, List, [], ◌∷◌, ◌++◌, take, drop, refl, Ok, Err}
use Rattle.log_schemes.specs.declared.log.Log.TheVariants.{V1, V2, Justdo}
use Rattle.rv64_isa.specs.Formats.{decoded}
use Rattle.file_fields.specs.Fields.{Magic, Version, Cut, Field, Rest, magic_at, number_within, repeated, number_at}
use Rattle.object_format.specs.Contents.{Contents}
use Rattle.object_format.specs.ObjectEncoder.{spelling}
use Rattle.object_format.specs.ObjectDecoder.{read, head_at, initial_at, log_at, thread_at, word_at}

-- one thread, `addi x5, x0, 1` and `ecall`
two_words : Contents
two_words = record { log = V1; code = (0x0010_0293 ∷ 0x0000_0073 ∷ []) ∷ []; initial = []; mutexes = 0 }

head_bytes : List ℕ
head_bytes = 0x49 ∷ 0x44 ∷ 0x4F ∷ 0x2D ∷ 0x4F ∷ 0x42 ∷ 0x4A ∷ 0x0A ∷ 1 ∷ 0 ∷ 0 ∷ 0 ∷ 1 ∷ 0 ∷ 0 ∷ 0 ∷ 0 ∷ 0 ∷ 0 ∷ 0 ∷ 0 ∷ 0 ∷ 0 ∷ 0 ∷ []

code_bytes : List ℕ
code_bytes = 2 ∷ 0 ∷ 0 ∷ 0 ∷ 0x93 ∷ 0x02 ∷ 0x10 ∷ 0 ∷ 0x73 ∷ 0 ∷ 0 ∷ 0 ∷ []

two_words_spelled : spelling two_words ≡ head_bytes ++ code_bytes
unfolding two_words head_bytes code_bytes
two_words_spelled = refl

two_words_read : read (head_bytes ++ code_bytes) ≡ Ok two_words
unfolding two_words head_bytes code_bytes read head_at magic_at log_at number_within initial_at thread_at repeated word_at number_at decoded
two_words_read = refl

cut_inside_the_last_word : read (head_bytes ++ take 11 code_bytes) ≡ Err (Cut 35)
unfolding two_words head_bytes code_bytes read head_at magic_at log_at number_within initial_at thread_at repeated word_at number_at decoded
cut_inside_the_last_word = refl

-- a fault of a whole field comes before the cut after it
no_words : read (head_bytes ++ 0 ∷ 0 ∷ 0 ∷ 0 ∷ 1 ∷ []) ≡ Err (Field 24)
unfolding two_words head_bytes code_bytes read head_at magic_at log_at number_within initial_at thread_at repeated word_at number_at decoded
no_words = refl

one_byte_more : read (head_bytes ++ code_bytes ++ 0 ∷ []) ≡ Err (Rest 36)
unfolding two_words head_bytes code_bytes read head_at magic_at log_at number_within initial_at thread_at repeated word_at number_at decoded
one_byte_more = refl

-- fewer than eight bytes are cut, whatever they are
few_bytes : read (1 ∷ 2 ∷ []) ≡ Err (Cut 2)
unfolding two_words head_bytes code_bytes read head_at magic_at log_at number_within initial_at thread_at repeated word_at number_at decoded
few_bytes = refl

other_bytes : read (0 ∷ drop 1 head_bytes) ≡ Err Magic
unfolding two_words head_bytes code_bytes read head_at magic_at log_at number_within initial_at thread_at repeated word_at number_at decoded
other_bytes = refl

listed_read : read (take 8 head_bytes ++ 2 ∷ drop 9 head_bytes ++ code_bytes) ≡ Ok (record two_words { log = V2 })
unfolding two_words head_bytes code_bytes read head_at magic_at log_at number_within initial_at thread_at repeated word_at number_at decoded
listed_read = refl

logged_writes_read : read (take 8 head_bytes ++ 3 ∷ drop 9 head_bytes ++ code_bytes) ≡ Ok (record two_words { log = Justdo })
unfolding two_words head_bytes code_bytes read head_at magic_at log_at number_within initial_at thread_at repeated word_at number_at decoded
logged_writes_read = refl

logged_writes_spelled : spelling (record two_words { log = Justdo }) ≡ take 8 head_bytes ++ 3 ∷ drop 9 head_bytes ++ code_bytes
unfolding two_words head_bytes code_bytes
logged_writes_spelled = refl

-- a mutex more than there may be; a version that there is none of comes before what follows it
too_many_mutexes : head_at 24 (take 8 head_bytes ++ 3 ∷ 0 ∷ 0 ∷ 0 ∷ 1 ∷ 0 ∷ 0 ∷ 0 ∷ 1 ∷ 4 ∷ 0 ∷ 0 ∷ []) ≡ Err (Field 20)
unfolding head_bytes head_at magic_at log_at number_within initial_at number_at
too_many_mutexes = refl

other_version : read (take 8 head_bytes ++ 4 ∷ 0 ∷ 0 ∷ 0 ∷ []) ≡ Err Version
unfolding two_words head_bytes code_bytes read head_at magic_at log_at number_within initial_at thread_at repeated word_at number_at decoded
other_version = refl
