pub mod ArcArrival
