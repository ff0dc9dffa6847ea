-- Words for contracts on locks.
use Rattle.std.specs.Prelude.{◌≡◌, [], ◌∷◌, None}
use Rattle.keyed_lock.specs.declared.lock.KeyedLock.{KeyedLock}
use Rattle.keyed_lock.specs.declared.lock.Loan.{Loan}

-- the key that was given when the lock was made
abbrev pub key_of : {T K : Type 0} → KeyedLock T K → K
key_of lock = lock.table.shared.key

-- the loan is one of this lock, whose value is out
abbrev pub IsLoanOf : {T K : Type 0} → KeyedLock T K → Loan T K → Type 0
IsLoanOf lock loan = (loan.seat.table_id ≡ lock.table.shared.table_id)
    × (loan.seat.me.1 ≡ (0, None) ∷ [])
