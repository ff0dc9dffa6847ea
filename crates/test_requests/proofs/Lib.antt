mod OfHistory
