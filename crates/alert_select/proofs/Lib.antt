mod Lists
mod Parts
