-- Zeros beyond the bytes, after more bytes are written over the first of them.
use borrow.Rule.Slice.PartMut.{put_mid}
use Rattle.std.proofs.Common.{arith, ◌≡◌, ◌∙◌, sym, ap, ℕ, List, ◌+◌, ◌-◌, ◌≤◌, ◌++◌, length, take, drop, replicate, length-take-le}
use Rattle.std.proofs.Math.Seq.{drop-append-add}
use Rattle.std.proofs.lemmas.List.{take-append-drop, drop-replicate}
use Rattle.std.proofs.lemmas.Slice.{take-put_mid, drop-put_mid}

module _ (size len k : ℕ) (bytes part : List ℕ) (sized : length bytes ≡ size) (parted : length part ≡ k) (fits : len + k ≤ size) where
  abbrev end : ℕ
  end = len + k

  abbrev put : List ℕ
  put = put_mid len (end - len) bytes part

  within : len ≤ length bytes
  within = omega (arith, fits, sized)

  parted_so : length part ≡ end - len
  parted_so = omega (arith, parted)

  pub appended : take end put ≡ take len bytes ++ part
  appended = take-put_mid len (end - len) bytes part end (omega (arith, parted)) within

  pub zeros_beyond : take len bytes ++ replicate (size - len) 0 ≡ bytes → take end put ++ replicate (size - end) 0 ≡ put
  zeros_beyond zeros =
      let split : end ≡ length (take len bytes) + k = omega (arith, length-take-le len bytes within) in
      let past : drop end bytes ≡ replicate (size - len - k) 0 =
      sym (ap (λ (l : List ℕ). drop end l) zeros)
      ∙ ap (λ (n : ℕ). drop n (take len bytes ++ replicate (size - len) 0)) split
      ∙ drop-append-add (take len bytes) (replicate (size - len) 0) k
      ∙ drop-replicate k (size - len) 0
      in
      let beyond : drop end put ≡ replicate (size - end) 0 =
      drop-put_mid len (end - len) bytes part end (omega arith) within parted_so
      ∙ past ∙ ap (λ (n : ℕ). replicate n 0) (omega arith)
      in
      ap (λ (l : List ℕ). take end put ++ l) (sym beyond) ∙ take-append-drop end put
