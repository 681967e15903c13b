pub mod NumberMaps
mod Lending
mod Tabled
